use Rattle.std.proofs.Common.{◌≡◌, ◌+◌, length}
use Rattle.font_theory.specs.OrderedPairs.{first_twice}
use Rattle.divided_tables.specs.SequenceIndex.{after}
use Rattle.divided_tables.proofs.sequence_union.first_twice.Given as goal

abbrev pub invariant-loop-pair : goal.invariant-loop-pair
invariant-loop-pair g l = record {
  twice : first_twice (after l.before l.pair-iterator) ≡ first_twice l.fn.pairs;
  count : l.count + length l.pair-iterator ≡ length l.fn.pairs;
}
