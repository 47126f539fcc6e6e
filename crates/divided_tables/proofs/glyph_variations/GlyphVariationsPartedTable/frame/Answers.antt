use Rattle.std.proofs.Common.{◌≡◌, ◌∙◌, [], ap, refl, sym}
use Rattle.std.specs.Option.{option_map}
use Rattle.font_theory.specs.Content.{glyph_count}
use Rattle.font_theory.specs.Parted.{gvar_with}
use Rattle.font_theory.specs.Parting.{Tables}
use Rattle.divided_tables.specs.OpenVariations.{OpenVariations, opened_gvar}
use Rattle.divided_tables.proofs.VariationLemmas.{gvar_framed, opened_none, table_with}
use Rattle.divided_tables.proofs.glyph_variations.GlyphVariationsPartedTable.frame.Goals as goal

pub returns-in-None-clause-table : goal.returns-in-None-clause-table
returns-in-None-clause-table g c =
    let copied : Tables = (g.S.Source.content_of c.args.source.now).copied in
    let opened : opened_gvar copied ≡ c.self.inside.variations =
    sym (ap (λ (v : OpenVariations). v.gvar) c.self.view_is ∙ c.requires.opened.gvar_is) in
    sym (ap (option_map (gvar_with (λ _. []) (glyph_count copied))) (opened_none copied (opened ∙ c.in-None.is)))
    ∙ gvar_framed copied

pub returns-in_ok-gvar-in-Some-clause-table : goal.returns-in_ok-gvar-in-Some-clause-table
returns-in_ok-gvar-in-Some-clause-table g c =
    let copied : Tables = (g.S.Source.content_of c.args.source.now).copied in
    let opened : opened_gvar copied ≡ c.self.inside.variations =
    sym (ap (λ (v : OpenVariations). v.gvar) c.self.view_is ∙ c.requires.opened.gvar_is) in
    table_with copied c.in-Some.variations (opened ∙ c.in-Some.is) (λ _. []) c.in-Some.variations.1 refl
    c.in_ok-gvar-in-Some.gvar.items c.in_ok-gvar-in-Some.ensures.table
    ∙ gvar_framed copied
