use Rattle.std.proofs.Common.{◌≡◌, false}
use Rattle.font_glyph.specs.Marks.{NoMark}
use Rattle.font_glyph.proofs.marks.is_clear.Given as goal

abbrev pub invariant-loop-g : goal.invariant-loop-g
invariant-loop-g l = l.any ≡ false → NoMark l.marks l.fn.at l.g
