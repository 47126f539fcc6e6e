use Rattle.font_theory.proofs.RefusalLemmas.{different-under, no_cut-under, refused-under, unfit-under}
use Rattle.font_theory.proofs.joins.true_refusals.Goals as goal

pub returns : goal.returns
returns c = λ R law. (
  refused-under R law,
  no_cut-under R law,
  λ X Y F okX okY. different-under R law X Y okX okY F,
  λ X Y F okX okY. unfit-under R law X Y okX okY F,
)
