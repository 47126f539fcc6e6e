use Rattle.std.proofs.Common.{ap, sym, ◌∙◌}
use Rattle.font_tables.specs.Fields.{glyph_count_of}
use Rattle.font_theory.specs.Kinds.{tables_of}
use Rattle.font_subset.proofs.SourceLemmas.{count_as}
use Rattle.font_join.specs.Union.{Held}
use Rattle.font_join.proofs.MergeLemmas.{count_in}
use Rattle.font_join.proofs.union.UnionSource.glyph_count.Goals as goal

pub returns : goal.returns
returns g c =
    let u : Held = c.args.self.now in
    c.glyph_count.ensures.count ∙ ap glyph_count_of (c.tables.ensures.tables ∙ c.font.ensures.font
    ∙ ap (λ (v : Held). v.tables) c.self.view_is)
    ∙ count_as u.kind u.tables ∙ sym (count_in u.kind (tables_of u.kind u.tables) u.own)
