use Rattle.std.proofs.Common.{ap}
use Rattle.font_map.specs.Inside.{subtable_glyph}
use Rattle.font_map.proofs.MappingLemmas.{run_of_chosen}
use Rattle.font_map.proofs.mapping.Mapping.next_run.Goals as goal

pub returns : goal.returns
returns c = run_of_chosen _ _ _ _ _ _ _ _ c.self.invariant c.self.view_is (ap subtable_glyph c.in-Segments.is)
    c.run_by_walk.ensures
