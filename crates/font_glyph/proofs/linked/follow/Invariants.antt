use Rattle.std.proofs.Common.{◌+◌, length, not}
use Rattle.std.specs.List.{count_by}
use Rattle.font_glyph.proofs.FollowLemmas.{Following}
use Rattle.font_glyph.specs.declared.linked.TheConstants.{NUMBERS}
use Rattle.font_glyph.proofs.linked.follow.Given as goal

abbrev pub invariant-loop-g : goal.invariant-loop-g
invariant-loop-g g l = Following (g.L.Links.links_at l.links) NUMBERS l.seeds l.marks l.work.items

abbrev pub decreases-loop-g : goal.decreases-loop-g
decreases-loop-g g l = count_by not l.marks + length l.work.items
