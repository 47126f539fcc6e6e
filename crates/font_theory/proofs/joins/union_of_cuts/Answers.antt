use Rattle.font_theory.proofs.JoinLemmas.{Agree-content, both-content}
use Rattle.font_theory.proofs.joins.union_of_cuts.Goals as goal

pub returns : goal.returns
returns c = λ F A B ok. (Agree-content F A B ok, both-content F A B ok)
