use Rattle.font_theory.proofs.CutLemmas.{IsCut-current}
use Rattle.font_theory.proofs.cuts.current_is_cut.Goals as goal

pub returns : goal.returns
returns c = IsCut-current
