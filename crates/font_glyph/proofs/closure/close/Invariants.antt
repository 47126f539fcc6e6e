use Rattle.std.proofs.Common.{◌+◌, length, not}
use Rattle.std.specs.List.{count_by}
use Rattle.font_glyph.proofs.ClosureLemmas.{Closing}
use Rattle.font_glyph.proofs.closure.close.Given as goal

abbrev pub invariant-loop-g : goal.invariant-loop-g
invariant-loop-g g l = Closing (g.O.Outlines.record_at l.outlines) (g.O.Outlines.count_of l.outlines) l.seeds l.marks
    l.work.items

abbrev pub decreases-loop-g : goal.decreases-loop-g
decreases-loop-g g l = count_by not l.marks + length l.work.items
