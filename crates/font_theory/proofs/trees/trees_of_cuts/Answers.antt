use Rattle.font_theory.proofs.TreeLemmas.{Value-cuts}
use Rattle.font_theory.proofs.trees.trees_of_cuts.Goals as goal

pub returns : goal.returns
returns c = Value-cuts
