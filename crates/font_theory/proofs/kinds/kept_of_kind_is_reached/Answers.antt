use Rattle.font_theory.specs.Kinds.{settings}
use Rattle.font_theory.proofs.KindLemmas.{settings-are}
use Rattle.font_theory.proofs.KindFileLemmas.{is_kept-by, is_root-by, is_there-by, kept-plain_by}
use Rattle.font_theory.proofs.kinds.kept_of_kind_is_reached.Goals as goal

pub returns : goal.returns
returns c = λ kind file wanted accepted. let s = settings kind in let is = settings-are kind in (
  is_kept-by s is file accepted wanted,
  is_root-by s is file accepted wanted,
  is_there-by s is file accepted,
  kept-plain_by s is file accepted wanted,
)
