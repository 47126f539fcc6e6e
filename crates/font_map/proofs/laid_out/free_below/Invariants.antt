use Rattle.font_map.specs.Inside.{NoneFree}
use Rattle.font_map.proofs.laid_out.free_below.Given as goal

abbrev pub invariant-loop-code : goal.invariant-loop-code
invariant-loop-code l = NoneFree l.glyphs l.from l.code
