use Rattle.std.proofs.Common.{map, subst, ◌≡◌, ◌∙◌}
use Rattle.std.specs.Str.{bytes_eq}
use Rattle.variation_sequences.specs.Pairs.{part_of}
use Rattle.font_theory.specs.SequenceTable.{sequence_table}
use Rattle.divided_tables.specs.SequenceIndex.{key_of}
use Rattle.divided_tables.specs.OpenSequences.{OpenSequences}
use Rattle.divided_tables.proofs.SequenceKeyLemmas.{same_parts}
use Rattle.divided_tables.proofs.open_sequences.Sequences.is_same.Goals as goal

pub returns : goal.returns
returns g c =
    c.eq.ensures ∙ (λ i. bytes_eq (c.keys_of.ensures i) (c.keys_of-2.ensures i))
    ∙ subst (λ (both : OpenSequences × OpenSequences).
    bytes_eq (map key_of (part_of both.0.pairs c.args.g)) (map key_of (part_of both.1.pairs c.args.g))
    ≡ bytes_eq (sequence_table (part_of both.0.pairs c.args.g)) (sequence_table (part_of both.1.pairs c.args.g)))
    (λ i. (c.self.view_is i, c.other.view_is i)) (same_parts _ _ _ _ c.self.invariant c.other.invariant c.args.g)
