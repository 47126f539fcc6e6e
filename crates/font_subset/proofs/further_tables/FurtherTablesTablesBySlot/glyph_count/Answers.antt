use Rattle.std.proofs.Common.{◌≡◌, ◌∙◌, ℕ, List, ap, subst}
use Rattle.font_tables.specs.Fields.{glyph_count_of}
use Rattle.font_theory.specs.Content.{glyph_count}
use Rattle.font_theory.specs.Kinds.{tables_of}
use Rattle.font_theory.specs.declared.kinds.Kind.{Kind}
use Rattle.font_subset.proofs.SourceLemmas.{count_as}
use Rattle.font_subset.proofs.further_tables.FurtherTablesTablesBySlot.glyph_count.Goals as goal

pub returns : goal.returns
returns g c =
    subst (λ (v : Kind × List ℕ). c.glyph_count.result ≡ glyph_count (tables_of v.0 v.1)) c.self.view_is
    (c.glyph_count.ensures.count ∙ ap glyph_count_of c.tables.ensures.tables
    ∙ count_as c.self.inside.kind c.self.inside.font.now)
