use Rattle.font_theory.specs.Kinds.{font_of}
use Rattle.font_subset.specs.Inside.{AreNumbered, is_between}
use Rattle.font_subset.proofs.presence.mark_between.Given as goal

abbrev pub invariant-loop-g : goal.invariant-loop-g
invariant-loop-g g l = AreNumbered (font_of l.presence.0 l.presence.1).there (is_between l.from l.g) l.fn.marks l.marks
