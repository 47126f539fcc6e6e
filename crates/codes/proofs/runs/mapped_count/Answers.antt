use Rattle.std.proofs.Common.{refl}
use Rattle.codes.specs.CharacterMap.{mapped_codes}
use Rattle.codes.proofs.CountLemmas.{counted_end, counted_on, counted_start}
use Rattle.codes.proofs.runs.mapped_count.Goals as goal

pub loop-piece-init : goal.loop-piece-init
loop-piece-init g c = counted_start _ _

pub loop-piece-preserved : goal.loop-piece-preserved
loop-piece-preserved g c = counted_on _ _ _ _ _ refl c.loop-piece.invariant c.in-Some.ensures

pub returns : goal.returns
unfolding mapped_codes
returns g c = counted_end _ _ _ _ c.loop-piece.invariant c.in_default.ensures
