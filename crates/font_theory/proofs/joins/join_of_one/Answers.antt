use Rattle.std.proofs.Common.{◌∙◌}
use Rattle.font_theory.proofs.CutLemmas.{CanJoin-self, joined-self}
use Rattle.font_theory.proofs.joins.join_of_one.Goals as goal

pub returns : goal.returns
returns c = λ R law X ok. (CanJoin-self R law X ok, joined-self R X, λ current. joined-self R X ∙ current.written)
