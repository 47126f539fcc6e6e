use Rattle.std.proofs.Common.{◌≡◌, ℕ, ◌<◌}
use Rattle.cmap_subtables.specs.Format4.{segment_count}
use Rattle.cmap_subtables.specs.Inside.{segment_end}
use Rattle.cmap_subtables.proofs.format4.walk_place.Given as goal

abbrev pub invariant-loop-i : goal.invariant-loop-i
invariant-loop-i l =
    record {
      count : l.count ≡ segment_count l.s;
      before : (k : ℕ) → k < l.i → segment_end l.s k < l.code;
    }
