use Rattle.font_theory.proofs.KindLeanLemmas.{gvar-empty}
use Rattle.font_theory.proofs.kinds.gvar_without_data_is.Goals as goal

pub returns : goal.returns
returns c = gvar-empty
