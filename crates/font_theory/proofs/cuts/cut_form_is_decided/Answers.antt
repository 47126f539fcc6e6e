use Rattle.font_theory.proofs.CutLemmas.{is_cut-of, is_cut-tells}
use Rattle.font_theory.proofs.cuts.cut_form_is_decided.Goals as goal

pub returns : goal.returns
returns c = λ R law X h. (is_cut-tells R law X h, is_cut-of R law X)
