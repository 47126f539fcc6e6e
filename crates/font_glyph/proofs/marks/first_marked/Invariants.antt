use Rattle.font_glyph.specs.Marks.{NoMark}
use Rattle.font_glyph.proofs.marks.first_marked.Given as goal

abbrev pub invariant-loop-g : goal.invariant-loop-g
invariant-loop-g l = NoMark l.marks l.from l.g
