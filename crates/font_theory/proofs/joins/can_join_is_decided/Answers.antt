use Rattle.font_theory.proofs.RefusalLemmas.{CanJoin-tested, tested-CanJoin}
use Rattle.font_theory.proofs.joins.can_join_is_decided.Goals as goal

pub returns : goal.returns
returns c = λ R law X Y okX okY. (CanJoin-tested R law X Y okX okY, tested-CanJoin R law X Y okX okY)
