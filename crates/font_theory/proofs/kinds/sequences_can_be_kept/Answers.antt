use Rattle.font_theory.proofs.SequenceSettingsLemmas.{AreSettings-sequences}
use Rattle.font_theory.proofs.SettingsLemmas.{IsKind-by}
use Rattle.font_theory.proofs.kinds.sequences_can_be_kept.Goals as goal

pub returns : goal.returns
returns c = λ s is. let also = AreSettings-sequences s is in (also, IsKind-by _ also)
