use Rattle.std.proofs.Common.{◌≡◌, ℕ, ◌&&◌, Some, nat_lt}
use Rattle.font_theory.specs.Kinds.{font_of}
use Rattle.font_subset.specs.KeptGlyphs.{glyphs_wanted}
use Rattle.font_subset.proofs.presence.list_there.Given as goal

abbrev pub invariant-loop-g : goal.invariant-loop-g
invariant-loop-g g l = (h : ℕ) → glyphs_wanted (Some l.glyphs.items) h
    ≡ (nat_lt h l.g && (font_of l.presence.0 l.presence.1).there h)
