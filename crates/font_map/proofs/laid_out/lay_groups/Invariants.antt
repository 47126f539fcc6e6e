use Rattle.std.proofs.Common.{drop}
use Rattle.cmap_subtables.specs.Format12.{groups_of}
use Rattle.font_map.specs.Inside.{IsLaid, IsSkip}
use Rattle.font_map.proofs.laid_out.lay_groups.Given as goal

abbrev pub invariant-loop-i : goal.invariant-loop-i
invariant-loop-i l =
    record {
      laid : IsLaid l.s l.count (drop l.i (groups_of l.s)) l.glyphs;
      skips : IsSkip l.glyphs l.skip;
    }
