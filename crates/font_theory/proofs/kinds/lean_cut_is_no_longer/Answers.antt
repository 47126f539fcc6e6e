use Rattle.font_theory.proofs.KindLeanLemmas.{length-lean_cut}
use Rattle.font_theory.proofs.kinds.lean_cut_is_no_longer.Goals as goal

pub returns : goal.returns
returns c = length-lean_cut
