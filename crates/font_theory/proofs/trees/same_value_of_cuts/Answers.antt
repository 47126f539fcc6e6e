use Rattle.font_theory.proofs.GrownLemmas.{Value-grown_cuts}
use Rattle.font_theory.proofs.trees.same_value_of_cuts.Goals as goal

pub returns : goal.returns
returns c = Value-grown_cuts
