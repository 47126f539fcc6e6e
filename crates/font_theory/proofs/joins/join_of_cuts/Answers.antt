use Rattle.font_theory.proofs.CutLemmas.{CanJoin-cuts, joined-cuts}
use Rattle.font_theory.proofs.joins.join_of_cuts.Goals as goal

pub returns : goal.returns
returns c = λ R law F h A B X Y wX wY sX sY. (
  CanJoin-cuts R law F h A B X Y wX wY sX sY,
  joined-cuts R law F h A B X Y wX wY sX sY,
)
