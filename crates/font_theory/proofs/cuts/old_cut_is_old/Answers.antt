use Rattle.std.proofs.Common.{refl}
use Rattle.font_theory.specs.Content.{content}
use Rattle.font_theory.proofs.CutLemmas.{IsOld-cut, content_of_all-old_cut}
use Rattle.font_theory.proofs.cuts.old_cut_is_old.Goals as goal

pub returns : goal.returns
returns c = λ R law F h A small. (
  IsOld-cut R law F h A (R.old (content (R.font F) A)) refl small,
  content_of_all-old_cut R law F h A small,
)
