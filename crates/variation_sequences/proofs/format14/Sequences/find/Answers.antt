use Rattle.std.proofs.Common.{ap, arith}
use Rattle.variation_sequences.specs.Format14.{selector_count}
use Rattle.variation_sequences.proofs.StrictLemmas.{strict_record}
use Rattle.variation_sequences.proofs.format14.Sequences.find.Goals as goal

pub find_under-requires : goal.find_under-requires
find_under-requires c =
    strict_record _ _ c.self.invariant (omega (arith, c.in_ok-k.ensures.within, ap selector_count c.of.ensures))
