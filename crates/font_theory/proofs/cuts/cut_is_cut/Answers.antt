use Rattle.font_theory.proofs.CutLemmas.{IsCut-cut, cut-cut, cut-less, font-cut, content_of_all-cut}
use Rattle.font_theory.proofs.cuts.cut_is_cut.Goals as goal

pub returns : goal.returns
returns c = λ R law F h A X w small. (
  IsCut-cut R law F h A X w small,
  font-cut R law F h A X w small,
  content_of_all-cut R law F h A X w small,
  cut-cut R law F h A X w small,
  cut-less R law F h A X w small,
)
