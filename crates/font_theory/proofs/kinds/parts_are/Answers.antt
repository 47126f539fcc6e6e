use Rattle.font_theory.proofs.WordLemmas.{metrics-from, part-data, part-none, part-same, parts-from}
use Rattle.font_theory.proofs.kinds.parts_are.Goals as goal

pub returns : goal.returns
returns c = λ a b g low here. (
  (metrics-from a b g low here, parts-from a b g low here),
  part-data a g low,
  part-same a g,
  part-none a g,
)
