use Rattle.font_theory.proofs.CutLemmas.{is_old-of, is_old-tells}
use Rattle.font_theory.proofs.cuts.old_is_decided.Goals as goal

pub returns : goal.returns
returns c = λ R X accepted. (is_old-tells R X accepted, is_old-of R X)
