use Rattle.std.proofs.Common.{refl}
use Rattle.font_theory.specs.Cut.{cut}
use Rattle.font_theory.proofs.CutLemmas.{IsCurrent-cut}
use Rattle.font_theory.proofs.cuts.cut_is_current.Goals as goal

pub returns : goal.returns
returns c = λ R law F h A small. IsCurrent-cut R law F h A (cut R F A) refl small
