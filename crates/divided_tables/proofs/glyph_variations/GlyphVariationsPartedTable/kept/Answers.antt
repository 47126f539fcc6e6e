use Rattle.std.proofs.Common.{◌≡◌, ◌∙◌, [], ℕ, List, Some, ap, cond, false, is_some, subst, sym}
use Rattle.font_variations.specs.Gvar.{IsAccepted, data_of, is_bad_variations}
use Rattle.font_theory.specs.Content.{Content}
use Rattle.font_theory.specs.Parted.{gvar_with}
use Rattle.font_theory.specs.Parting.{Tables}
use Rattle.divided_tables.specs.OpenVariations.{OpenVariations, opened_gvar}
use Rattle.divided_tables.proofs.VariationLemmas.{gvar_kept, gvar_missing, opened_none, opened_some}
use Rattle.divided_tables.proofs.glyph_variations.GlyphVariationsPartedTable.kept.Goals as goal

pub returns-in-None-clause-table : goal.returns-in-None-clause-table
returns-in-None-clause-table g c =
    let copied : Tables = (g.S.Source.content_of c.args.source.now).copied in
    let opened : opened_gvar copied ≡ c.self.inside.variations =
    sym (ap (λ (v : OpenVariations). v.gvar) c.self.view_is ∙ c.requires.opened.gvar_is) in
    gvar_missing (g.S.Source.content_of c.args.source.now) (opened_none copied (opened ∙ c.in-None.is))

pub returns-in_ok-gvar-in-Some-clause-table : goal.returns-in_ok-gvar-in-Some-clause-table
returns-in_ok-gvar-in-Some-clause-table g c =
    let copied : Tables = (g.S.Source.content_of c.args.source.now).copied in
    let opened : opened_gvar copied ≡ c.self.inside.variations =
    sym (ap (λ (v : OpenVariations). v.gvar) c.self.view_is ∙ c.requires.opened.gvar_is) in
    let K : Content = g.S.Source.content_of c.args.source.now in
    let v : List ℕ × ℕ = c.in-Some.variations in
    let w = opened_some copied v (opened ∙ c.in-Some.is) in
    let accepted : IsAccepted v.0 v.1 = c.glyph_count-accepted.ensures.sound in
    ap Some (c.in_ok-gvar-in-Some.ensures.table
    ∙ ap (λ (n : ℕ). gvar_with (λ h. cond (is_some (K.outline h)) (data_of v.0 h) []) n v.0) (sym w.1))
    ∙ gvar_kept K v.0 accepted.fvar w.0
    (subst (λ (n : ℕ). is_bad_variations v.0 accepted.fvar n ≡ false) (sym w.1) accepted.accepted)
