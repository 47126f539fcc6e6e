use Rattle.font_map.proofs.MappingLemmas.{is_character_map}
use Rattle.font_map.proofs.mapping.Mapping.chosen.Goals as goal

pub returns-clause-map : goal.returns-clause-map
returns-clause-map c = is_character_map _ _ _ c.self.invariant.glyphs c.self.view_is
