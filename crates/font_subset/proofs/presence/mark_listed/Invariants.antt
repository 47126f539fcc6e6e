use Rattle.std.proofs.Common.{Some, take}
use Rattle.font_theory.specs.Kinds.{font_of}
use Rattle.font_subset.specs.Inside.{AreNumbered}
use Rattle.font_subset.specs.KeptGlyphs.{glyphs_wanted}
use Rattle.font_subset.proofs.presence.mark_listed.Given as goal

abbrev pub invariant-loop-g : goal.invariant-loop-g
invariant-loop-g g l = AreNumbered (font_of l.presence.0 l.presence.1).there
    (glyphs_wanted (Some (take l.g-index l.numbers))) l.fn.marks l.marks
