use Rattle.font_theory.proofs.KindLeanLemmas.{current-full}
use Rattle.font_theory.proofs.kinds.lean_cut_is_current.Goals as goal

pub returns : goal.returns
returns c = current-full
