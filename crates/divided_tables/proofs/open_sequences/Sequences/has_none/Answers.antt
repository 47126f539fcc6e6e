use Rattle.std.proofs.Common.{List, ap, length, sym, ℕ, ◌∙◌, false, nat_lt, ◌≡◌, subst}
use Rattle.std.proofs.lemmas.Bool.{eqb-true}
use Rattle.variation_sequences.specs.Pairs.{part_of}
use Rattle.font_theory.specs.SequenceTable.{sequence_table}
use Rattle.divided_tables.specs.SequenceIndex.{keys_between}
use Rattle.divided_tables.specs.OpenSequences.{OpenSequences}
use Rattle.divided_tables.proofs.SequenceKeyLemmas.{no_part}
use Rattle.divided_tables.proofs.open_sequences.Sequences.has_none.Goals as goal

pub returns : goal.returns
returns g c = λ yes h low high.
    subst (λ (o : OpenSequences). nat_lt 0 (length (sequence_table (part_of o.pairs h))) ≡ false) c.self.view_is
    (no_part _ _ c.self.invariant c.args.from c.args.to h low high
    (ap (λ (l : List ℕ). length l) (sym (c.keys_between.ensures
    ∙ (λ i. keys_between (c.from.ensures i) (c.from-2.ensures i) (c.deref.ensures.value i))))
    ∙ eqb-true _ 0 (sym c.is_empty.ensures ∙ yes)))
