use Rattle.std.proofs.Common.{◌≡◌, ℕ, List, Bool, IfOk, Some, option_copied, subst}
use Rattle.font_tables.specs.Fields.{glyph_count_of}
use Rattle.font_theory.specs.declared.kinds.Kind.{Kind}
use Rattle.font_subset.specs.CutOfKind.{closed_of}
use Rattle.font_subset.specs.KeptGlyphs.{asked, numbers_in, wanted_in}
use Rattle.font_subset.proofs.font_to_cut.FontToCut.closure.Goals as goal

pub returns-clause-glyphs : goal.returns-clause-glyphs
returns-clause-glyphs g c =
    subst (λ (v : Kind × (List ℕ × Bool)). IfOk c.closed_glyphs.result (λ listed. listed.items
    ≡ numbers_in (closed_of v.0 v.1.0 (wanted_in (asked (option_copied c.args.codes) (Some c.args.glyphs.now)))).glyphs
    (glyph_count_of v.1.0))) c.self.view_is c.closed_glyphs.ensures.glyphs
