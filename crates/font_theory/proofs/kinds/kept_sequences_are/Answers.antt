use Rattle.font_theory.proofs.SequenceSettingsLemmas.{parts-sequences}
use Rattle.font_theory.proofs.kinds.kept_sequences_are.Goals as goal

pub returns : goal.returns
returns c = parts-sequences
