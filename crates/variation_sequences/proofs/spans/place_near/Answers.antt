use Rattle.variation_sequences.proofs.SpanLemmas.{ascends}
use Rattle.variation_sequences.proofs.spans.place_near.Goals as goal

pub first_reaching-requires : goal.first_reaching-requires
first_reaching-requires g c = ascends _ _ _ c.requires
