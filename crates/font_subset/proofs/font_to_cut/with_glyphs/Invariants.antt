use Rattle.std.proofs.Common.{Some, nat_lt, take}
use Rattle.font_subset.specs.Inside.{AreNumbered}
use Rattle.font_subset.specs.KeptGlyphs.{glyphs_wanted}
use Rattle.font_subset.proofs.font_to_cut.with_glyphs.Given as goal

abbrev pub invariant-loop-g : goal.invariant-loop-g
invariant-loop-g g l = AreNumbered (λ h. nat_lt h l.count) (glyphs_wanted (Some (take l.g-index l.glyphs)))
    l.initial.marks l.marks
