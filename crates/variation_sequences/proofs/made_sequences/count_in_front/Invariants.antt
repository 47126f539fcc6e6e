use Rattle.std.proofs.Common.{◌≡◌, ◌+◌, drop, nat_eq}
use Rattle.std.specs.List.{prefix_len}
use Rattle.variation_sequences.proofs.made_sequences.count_in_front.Given as goal

abbrev pub invariant-loop-i : goal.invariant-loop-i
invariant-loop-i l =
    l.i + prefix_len (λ p. nat_eq p.selector l.selector) (drop l.i l.pairs)
    ≡ prefix_len (λ p. nat_eq p.selector l.selector) l.pairs
