use Rattle.std.proofs.Common.{◌≡◌, ◌≤◌, ◌<◌, ◌-◌, ℕ, false}
use Rattle.font_theory.specs.Content.{Content, glyph_count}
use Rattle.font_join.specs.KindInside.{has_others}
use Rattle.font_join.proofs.parts.different_part.Given as goal

-- none of the glyphs below has another part
abbrev pub invariant-loop-g : goal.invariant-loop-g
invariant-loop-g g l =
    let C : Content = g.K.Source.content_of l.k in
    let D : Content = g.L.Source.content_of l.l in
    ((h : ℕ) → h < l.g → has_others C D l.first l.second h ≡ false) × (l.g ≤ glyph_count D.copied)

abbrev pub decreases-loop-g : goal.decreases-loop-g
decreases-loop-g g l = l.count - l.g
