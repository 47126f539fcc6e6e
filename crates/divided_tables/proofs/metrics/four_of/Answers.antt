use Rattle.std.proofs.Common.{◌≢◌, ◌∙◌, ◌+◌, ◌∷◌, [], ℕ, ap, get_or, sym}
use Rattle.font_theory.specs.Parted.{entry_size}
use Rattle.divided_tables.proofs.FourLemmas.{entry_size-two, four_bytes, two_bytes}
use Rattle.divided_tables.proofs.metrics.four_of.Goals as goal

pub returns-then-entry-eq-PAIR : goal.returns-then-entry-eq-PAIR
returns-then-entry-eq-PAIR c =
    let t = c.args.bytes.now in
    ap (λ (n : ℕ). get_or t n 0 ∷ get_or t (n + 1) 0 ∷ get_or t (n + 2) 0 ∷ get_or t (n + 3) 0 ∷ [])
    c.entry_of-entry.ensures.at
    ∙ sym (four_bytes c.args.pairs t c.args.g (sym c.entry_of-entry.ensures.size ∙ c.if-entry-eq-PAIR.true))

pub returns : goal.returns
returns c =
    let t = c.args.bytes.now in
    let other : entry_size c.args.pairs c.args.g ≢ 4 =
    λ e. c.if-entry-eq-PAIR.false (c.entry_of-entry.ensures.size ∙ e) in
    ap (λ (n : ℕ). get_or t n 0 ∷ get_or t (n + 1) 0 ∷ 0 ∷ 0 ∷ []) c.entry_of-entry.ensures.at
    ∙ sym (two_bytes c.args.pairs t c.args.g (entry_size-two c.args.pairs c.args.g c.requires.some other))
