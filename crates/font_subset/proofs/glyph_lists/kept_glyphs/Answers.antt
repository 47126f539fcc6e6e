use Rattle.std.proofs.Common.{◌≡◌, ◌∙◌, ap}
use Rattle.font_glyph.specs.Marks.{has}
use Rattle.font_tables.specs.Fields.{glyph_count_of}
use Rattle.font_theory.specs.Content.{is_kept}
use Rattle.font_theory.specs.Kinds.{font_of}
use Rattle.font_subset.specs.KeptGlyphs.{numbers_in, wanted_in}
use Rattle.font_subset.proofs.GlyphListLemmas.{same_numbers_in}
use Rattle.font_subset.proofs.SourceLemmas.{Held}
use Rattle.font_subset.proofs.glyph_lists.kept_glyphs.Goals as goal

pub returns-clause-glyphs : goal.returns-clause-glyphs
returns-clause-glyphs g c =
    let count : c.glyph_count-count.result ≡ glyph_count_of c.args.font.now.1 =
    c.glyph_count-count.ensures.count ∙ ap glyph_count_of (c.tables.ensures.tables ∙ c.font.ensures.font) in
    c.in_ok-listed.ensures.glyphs ∙ ap (numbers_in (has c.kept.result.now)) count
    ∙ same_numbers_in _ _ (glyph_count_of c.args.font.now.1)
    (λ h low. c.kept.ensures.kept h
    ∙ ap (λ (v : Held). is_kept (font_of v.0 v.1.0) (wanted_in v.1.1) h) c.in_ok-selection.ensures.selection)
