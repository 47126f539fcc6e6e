use Rattle.font_glyph.proofs.ReachLemmas.{reached_decides}
use Rattle.font_glyph.proofs.laws.reached_is_reach.Goals as goal

pub returns : goal.returns
returns c = λ records seeds count low below g. let decides = reached_decides records seeds count low below g in
    (decides.0, decides.1)
