use Rattle.font_theory.proofs.GrownLemmas.{grown-cuts, grown-joins}
use Rattle.font_theory.proofs.trees.grown_cuts.Goals as goal

pub returns : goal.returns
returns c = λ R law files F h A are few k low. (
  grown-cuts R law files F h A are few k low,
  grown-joins R law files F h A are few k low,
)
