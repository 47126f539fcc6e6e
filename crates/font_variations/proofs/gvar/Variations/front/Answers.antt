use Rattle.font_variations.proofs.GvarLemmas.{has_header}
use Rattle.font_variations.proofs.gvar.Variations.front.Goals as goal

pub front_within-requires : goal.front_within-requires
front_within-requires c = let sound = c.self.invariant.sound in has_header _ sound.fvar _ sound.accepted
