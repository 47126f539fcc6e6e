use Rattle.std.proofs.Common.{◌≡◌, length, subst, sym, ◌∙◌}
use Rattle.font_theory.specs.Content.{glyph_count}
use Rattle.font_theory.specs.Kinds.{tables_of}
use Rattle.font_subset.proofs.SourceLemmas.{count_as}
use Rattle.font_join.specs.Union.{Held, content_in}
use Rattle.font_join.proofs.MergeLemmas.{count_in}
use Rattle.font_join.proofs.union.Union.too_large.Goals as goal

pub size_if_too_large-requires-clause-count : goal.size_if_too_large-requires-clause-count
size_if_too_large-requires-clause-count g c =
    let u : Held = record {
      kind = c.self.inside.first.0;
      tables = c.self.inside.first.1;
      runs = c.self.inside.map;
      outlines = c.self.inside.outlines;
      own = c.self.inside.own;
    } in
    subst (λ (v : Held). length c.self.inside.outlines ≡ glyph_count (content_in v).copied) c.self.view_is
    (c.self.invariant.count ∙ count_as u.kind u.tables
    ∙ sym (count_in u.kind (tables_of u.kind u.tables) u.own))
