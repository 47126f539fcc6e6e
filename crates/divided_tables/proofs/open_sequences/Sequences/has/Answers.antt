use Rattle.std.proofs.Common.{List, ap, length, nat_eq, not, ℕ, ◌∙◌}
use Rattle.variation_sequences.specs.Pairs.{part_of}
use Rattle.divided_tables.proofs.SequenceKeyLemmas.{has_pairs}
use Rattle.divided_tables.proofs.open_sequences.Sequences.has.Goals as goal

pub returns : goal.returns
returns g c =
    ap not c.is_empty.ensures ∙ ap (λ (l : List ℕ). not (nat_eq (length l) 0)) c.keys_of.ensures
    ∙ has_pairs (part_of c.args.self.now.pairs c.args.g)
