use Rattle.font_glyph.specs.Closure.{marks_after, work_after}
use Rattle.font_glyph.specs.declared.linked.TheConstants.{NUMBERS}
use Rattle.font_glyph.proofs.FollowLemmas.{Visiting}
use Rattle.font_glyph.proofs.linked.visit_links.Given as goal

abbrev pub invariant-loop-link : goal.invariant-loop-link
invariant-loop-link g l = Visiting NUMBERS l.links l.link-index l.marks (marks_after l.fn.links l.fn.marks) l.work.items
    (work_after l.fn.links l.fn.marks l.fn.work.items)
