use Rattle.std.proofs.Common.{ap, map, ◌+◌, ◌∙◌}
use Rattle.variation_sequences.specs.Pairs.{part_of}
use Rattle.divided_tables.specs.SequenceIndex.{key_of, keys_between}
use Rattle.divided_tables.specs.OpenSequences.{OpenSequences}
use Rattle.divided_tables.proofs.SequenceKeyLemmas.{keys_of_glyph}
use Rattle.divided_tables.proofs.open_sequences.Sequences.keys_of.Goals as goal

pub returns : goal.returns
returns g c =
    c.keys_between.ensures
    ∙ (λ i. keys_between (c.from.ensures i) (c.from-2.ensures i + 1) (c.deref.ensures.value i))
    ∙ keys_of_glyph _ _ c.self.invariant c.args.g
    ∙ ap (λ (o : OpenSequences). map key_of (part_of o.pairs c.args.g)) c.self.view_is
