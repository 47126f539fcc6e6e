use Rattle.std.proofs.Common.{◌-◌, drop}
use Rattle.cmap_subtables.specs.Format12.{groups_of}
use Rattle.font_map.specs.Inside.{IsFirstFree, IsLaid, IsSkip}
use Rattle.font_map.proofs.laid_out.lay_group.Given as goal

abbrev pub invariant-loop-code : goal.invariant-loop-code
invariant-loop-code l =
    record {
      laid : IsLaid l.s l.count (drop l.i (groups_of l.s)) l.glyphs;
      skips : IsSkip l.glyphs l.skip;
      first : IsFirstFree l.glyphs l.group.first l.stop l.code;
    }

abbrev pub decreases-loop-code : goal.decreases-loop-code
decreases-loop-code l = l.stop - l.code
