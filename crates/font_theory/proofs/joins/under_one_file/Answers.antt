use Rattle.font_theory.proofs.CutLemmas.{Agree-under, IsCut-under}
use Rattle.font_theory.proofs.joins.under_one_file.Goals as goal

pub returns : goal.returns
returns c = λ R law. (IsCut-under R law, Agree-under R law)
