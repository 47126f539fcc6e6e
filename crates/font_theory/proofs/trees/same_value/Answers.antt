use Rattle.font_theory.proofs.GrownLemmas.{Value-grown, Value-grown_same}
use Rattle.font_theory.proofs.trees.same_value.Goals as goal

pub returns : goal.returns
returns c = λ R law files some z p small t over few. (
  Value-grown R law files some z p small t over few,
  λ forms. Value-grown_same R law files some z p small forms t over few,
)
