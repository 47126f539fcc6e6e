use Rattle.std.proofs.Common.{◌≡◌, ℕ, ◌++◌, sym, ap, ◌∙◌, arith, Option}
use Rattle.std.specs.Option.{unwrap_or}
use Rattle.font_theory.specs.Bytes.{bytes16, bytes32}
use Rattle.font_theory.proofs.RecordLemmas.{fields_for, header_is, search_fields_of-some}
use Rattle.font_write.proofs.bytes.header.Goals as goal

pub returns : goal.returns
returns c =
    let n : ℕ = c.args.count in
    let is : c.unwrap_or-range.result ≡ fields_for n =
    c.unwrap_or-range.ensures ∙ ap (λ (o : Option (ℕ × ℕ × ℕ)). unwrap_or o (0, 0, 0)) (c.search_fields.ensures
    ∙ search_fields_of-some n (omega (arith, c.requires.some)) (omega (arith, c.requires.few))) in
    c.header_of.ensures
    ∙ ap (λ (f : ℕ × ℕ × ℕ). bytes32 65536 ++ (bytes16 n ++ (bytes16 f.0 ++ (bytes16 f.1 ++ bytes16 f.2)))) is
    ∙ sym (header_is n (omega (arith, c.requires.some)) (omega (arith, c.requires.few)))
