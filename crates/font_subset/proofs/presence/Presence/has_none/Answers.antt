use Rattle.std.proofs.Common.{◌≡◌, ◌≤◌, ◌<◌, ◌∙◌, ℕ, List, ap, arith, false, length, subst, sym}
use Rattle.font_tables.specs.Fields.{glyph_count_of}
use Rattle.font_tables.specs.Outlines.{outline_of}
use Rattle.font_theory.specs.Kinds.{font_of}
use Rattle.font_theory.specs.declared.kinds.Kind.{Kind}
use Rattle.font_subset.proofs.PresenceLemmas.{count_held, there_parts}
use Rattle.font_subset.proofs.presence.Presence.has_none.Goals as goal

pub has_none-requires-clause-within : goal.has_none-requires-clause-within
has_none-requires-clause-within g c =
    let within : c.args.to ≤ glyph_count_of c.self.inside.font.now.1 =
    subst (λ (v : Kind × List ℕ). c.args.to ≤ glyph_count_of v.1) (sym c.self.view_is) c.requires.within in
    omega (arith, within, count_held c.self.inside.font.now.0 c.self.inside.font.now.1 _ c.self.invariant)

pub returns : goal.returns
returns g c = λ is h low high.
    let kind = c.self.inside.font.now.0 in
    let file = c.self.inside.font.now.1 in
    let inside : h < glyph_count_of file =
    subst (λ (v : Kind × List ℕ). h < glyph_count_of v.1) (sym c.self.view_is)
    (omega (arith, high, c.requires.within)) in
    let outline : length (outline_of file h) ≡ 0 =
    ap (λ (f : List ℕ). length (outline_of f h)) (sym c.font.ensures.font)
    ∙ c.has_no_outlines.ensures c.if-not-has_no_outlines.false h low high in
    subst (λ (v : Kind × List ℕ). (font_of v.0 v.1).there h ≡ false) c.self.view_is
    (sym (there_parts kind file _ c.self.invariant h inside false outline (sym (c.has_none.ensures is h low high))))
