use Rattle.font_theory.proofs.WordLemmas.{gvar-reduced, hmtx-reduced, others-reduced, post-reduced, vmtx-reduced}
use Rattle.font_theory.proofs.kinds.divided_tables_are.Goals as goal

pub returns : goal.returns
returns c = λ F wanted ok. (
  others-reduced F wanted,
  hmtx-reduced F wanted,
  vmtx-reduced F wanted,
  post-reduced F wanted,
  gvar-reduced F wanted ok,
)
