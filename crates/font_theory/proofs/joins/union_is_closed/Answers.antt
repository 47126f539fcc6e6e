use Rattle.font_theory.proofs.JoinLemmas.{IsClosed-both}
use Rattle.font_theory.proofs.joins.union_is_closed.Goals as goal

pub returns : goal.returns
returns c = IsClosed-both
