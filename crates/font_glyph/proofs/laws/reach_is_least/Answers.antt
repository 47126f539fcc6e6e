use Rattle.font_glyph.proofs.ReachLemmas.{Reach-closed, Reach-within}
use Rattle.font_glyph.proofs.laws.reach_is_least.Goals as goal

pub returns : goal.returns
returns c = λ records seeds. (Reach-closed records seeds, Reach-within records seeds)
