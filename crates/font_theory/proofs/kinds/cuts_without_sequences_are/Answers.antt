use Rattle.font_theory.proofs.UnsequencedLemmas.{cut-unsequenced, fault-unsequenced}
use Rattle.font_theory.proofs.kinds.cuts_without_sequences_are.Goals as goal

pub returns : goal.returns
returns c = λ s is unread X none. (fault-unsequenced s is unread X none, cut-unsequenced s is unread X none)
