use Rattle.std.proofs.Common.{◌≡◌, ◌<◌, ◌∙◌, ℕ, List, ap, length, subst, sym, true}
use Rattle.font_tables.specs.Fields.{glyph_count_of}
use Rattle.font_tables.specs.Outlines.{outline_of}
use Rattle.font_theory.specs.Kinds.{font_of}
use Rattle.font_theory.specs.declared.kinds.Kind.{Kind}
use Rattle.font_subset.proofs.PresenceLemmas.{glyph, no_length, some_length, there_outline, there_parts}
use Rattle.font_subset.proofs.presence.Presence.has.Goals as goal

pub returns-then-not-is_empty : goal.returns-then-not-is_empty
returns-then-not-is_empty g c =
    let low : c.args.g < glyph_count_of c.self.inside.font.now.1 =
    subst (λ (v : Kind × List ℕ). c.args.g < glyph_count_of v.1) (sym c.self.view_is) c.requires in
    let is : c.outline.result.now ≡ outline_of c.self.inside.font.now.1 c.args.g =
    c.outline.ensures.outline ∙ ap (λ (f : List ℕ). outline_of f c.args.g) c.font.ensures.font in
    subst (λ (v : Kind × List ℕ). true ≡ (font_of v.0 v.1).there c.args.g) c.self.view_is
    (sym (there_outline c.self.inside.font.now.0 c.self.inside.font.now.1 _ c.self.invariant c.args.g low
    (subst (λ (b : List ℕ). 0 < length b) is (some_length c.outline.result.now
    (sym c.is_empty.ensures ∙ c.if-not-is_empty.true)))))

pub has-requires : goal.has-requires
has-requires g c =
    let low : c.args.g < glyph_count_of c.self.inside.font.now.1 =
    subst (λ (v : Kind × List ℕ). c.args.g < glyph_count_of v.1) (sym c.self.view_is) c.requires in
    glyph c.self.inside.font.now.0 c.self.inside.font.now.1 _ c.self.invariant c.args.g low

pub returns : goal.returns
returns g c =
    let low : c.args.g < glyph_count_of c.self.inside.font.now.1 =
    subst (λ (v : Kind × List ℕ). c.args.g < glyph_count_of v.1) (sym c.self.view_is) c.requires in
    let is : c.outline.result.now ≡ outline_of c.self.inside.font.now.1 c.args.g =
    c.outline.ensures.outline ∙ ap (λ (f : List ℕ). outline_of f c.args.g) c.font.ensures.font in
    subst (λ (v : Kind × List ℕ). c.has.result ≡ (font_of v.0 v.1).there c.args.g) c.self.view_is
    (there_parts c.self.inside.font.now.0 c.self.inside.font.now.1 _ c.self.invariant c.args.g low c.has.result
    (sym (ap (λ (b : List ℕ). length b) is)
    ∙ no_length c.outline.result.now (sym c.is_empty.ensures ∙ c.if-not-is_empty.false)) c.has.ensures)
