use Rattle.font_theory.proofs.SequenceCmapLemmas.{third_chosen}
use Rattle.font_theory.proofs.files.third_is_chosen.Goals as goal

pub returns : goal.returns
returns c = third_chosen
