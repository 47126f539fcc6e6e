use Rattle.font_glyph.proofs.VisitLemmas.{Listed}
use Rattle.font_glyph.proofs.closure.marked.Given as goal

abbrev pub invariant-loop-g : goal.invariant-loop-g
invariant-loop-g g l = Listed l.count l.marks l.g l.work.items
