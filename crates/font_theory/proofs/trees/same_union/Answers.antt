use Rattle.font_theory.proofs.TreeLemmas.{union_in-same}
use Rattle.font_theory.proofs.trees.same_union.Goals as goal

pub returns : goal.returns
returns c = union_in-same
