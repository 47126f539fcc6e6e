use Rattle.std.proofs.Common.{◌≤◌, ◌-◌}
use Rattle.font_map.specs.Inside.{NoneFree, IsSkip}
use Rattle.font_map.proofs.laid_out.free_from.Given as goal

abbrev pub invariant-loop-at : goal.invariant-loop-at
invariant-loop-at l =
    record {
      skips : IsSkip l.glyphs l.skip;
      from_on : l.from ≤ l.at;
      passed : NoneFree l.glyphs l.from l.at;
    }

abbrev pub decreases-loop-at : goal.decreases-loop-at
decreases-loop-at l = l.stop - l.at
