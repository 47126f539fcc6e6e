use Rattle.std.proofs.Common.{◌≡◌, drop, nat_le}
use Rattle.std.specs.List.{find}
use Rattle.commands.proofs.subset.first_past.Given as goal

-- what is left has the first of them
abbrev pub invariant-loop-number : goal.invariant-loop-number
invariant-loop-number l = find (λ h. nat_le l.count h) l.numbers
    ≡ find (λ h. nat_le l.count h) (drop l.number-index l.numbers)
