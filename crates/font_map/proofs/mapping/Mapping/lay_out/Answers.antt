use Rattle.std.proofs.Common.{ap, sym, ◌∙◌}
use Rattle.cmap_subtables.specs.Format12.{group_glyph}
use Rattle.cmap_subtables.specs.Format4.{segment_glyph}
use Rattle.font_map.specs.Inside.{subtable_glyph}
use Rattle.font_map.proofs.MappingLemmas.{laid_out_of_chosen}
use Rattle.font_map.proofs.mapping.Mapping.lay_out.Goals as goal

pub returns-in-Segments-clause-map : goal.returns-in-Segments-clause-map
returns-in-Segments-clause-map g c =
    laid_out_of_chosen _ _ _ _ _ _ _ c.self.invariant c.self.view_is (ap subtable_glyph c.in-Segments.is
    ∙ ap segment_glyph (sym c.bytes.ensures.value)) c.lay_segments.ensures.map

pub returns-in_ok-skip-in-Groups-clause-map : goal.returns-in_ok-skip-in-Groups-clause-map
returns-in_ok-skip-in-Groups-clause-map g c =
    laid_out_of_chosen _ _ _ _ _ _ _ c.self.invariant c.self.view_is (ap subtable_glyph c.in-Groups.is
    ∙ ap group_glyph (sym c.bytes-in-Groups.ensures.value)) c.lay_groups.ensures.map
