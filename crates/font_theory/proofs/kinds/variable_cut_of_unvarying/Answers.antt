use Rattle.font_theory.proofs.KindLeanLemmas.{cut-unvarying, fault-unvarying}
use Rattle.font_theory.proofs.kinds.variable_cut_of_unvarying.Goals as goal

pub returns : goal.returns
returns c = λ X still accepted. (fault-unvarying X still accepted, cut-unvarying X still accepted)
