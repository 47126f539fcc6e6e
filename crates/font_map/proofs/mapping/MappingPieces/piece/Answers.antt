use Rattle.font_map.proofs.MappingLemmas.{piece_of_chosen}
use Rattle.font_map.proofs.mapping.MappingPieces.piece.Goals as goal

pub returns : goal.returns
returns c = piece_of_chosen _ _ _ _ _ _ _ c.self.invariant c.self.view_is c.piece.ensures
