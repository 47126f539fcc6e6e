use Rattle.font_theory.proofs.CutLemmas.{IsCurrent-joined, Under-joined_left, Under-joined_right, Under-least}
use Rattle.font_theory.proofs.joins.least_upper_bound.Goals as goal

pub returns : goal.returns
returns c = λ R law X Y can small. (
  IsCurrent-joined R law X Y can small,
  Under-joined_left R law X Y can small,
  Under-joined_right R law X Y can small,
  λ F. Under-least R law X Y F can small,
)
