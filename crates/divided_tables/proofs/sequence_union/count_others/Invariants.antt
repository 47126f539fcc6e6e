use Rattle.std.proofs.Common.{◌≡◌, ◌+◌, drop, not}
use Rattle.std.specs.List.{prefix_len}
use Rattle.divided_tables.specs.SequenceIndex.{is_of}
use Rattle.divided_tables.proofs.sequence_union.count_others.Given as goal

abbrev pub invariant-loop-i : goal.invariant-loop-i
invariant-loop-i g l =
    l.i + prefix_len (λ p. not (is_of (g.C.OfFirst.of_first l.choice) l.first p)) (drop l.i l.pairs)
    ≡ prefix_len (λ p. not (is_of (g.C.OfFirst.of_first l.choice) l.first p)) l.pairs
