use Rattle.font_theory.proofs.CutLemmas.{Under-self, Under-through, same-mutual, content_of_all-mutual}
use Rattle.font_theory.proofs.joins.under_is_order.Goals as goal

pub returns : goal.returns
returns c = λ R law. (
  Under-self R law,
  Under-through R law,
  λ X Z u v. (
    content_of_all-mutual R law X Z u v,
    λ old new. same-mutual R law X Z old new u v,
  ),
)
