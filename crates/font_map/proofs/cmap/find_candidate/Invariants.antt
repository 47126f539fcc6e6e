use Rattle.std.proofs.Common.{◌≡◌, ◌-◌, find}
use Rattle.std.specs.List.{range_with_len}
use Rattle.font_map.specs.Cmap.{candidate_of, is_candidate}
use Rattle.font_map.proofs.cmap.find_candidate.Given as goal

abbrev pub invariant-loop-k : goal.invariant-loop-k
invariant-loop-k l = candidate_of l.cmap l.platform l.encoding ≡ find (is_candidate l.cmap l.platform l.encoding)
    (range_with_len l.k (l.count - l.k))
