use Rattle.font_theory.proofs.CutLemmas.{is_current-of, is_current-tells}
use Rattle.font_theory.proofs.cuts.current_is_decided.Goals as goal

pub returns : goal.returns
returns c = λ R X h. (is_current-tells R X h, is_current-of R X)
