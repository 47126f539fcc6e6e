use Rattle.font_theory.proofs.DifferenceLemmas.{Agree-from_none, none_from-Agree}
use Rattle.font_theory.proofs.joins.no_difference.Goals as goal

pub returns : goal.returns
returns c = λ K L okK okL same. (Agree-from_none K L okK okL same, none_from-Agree K L okK okL)
