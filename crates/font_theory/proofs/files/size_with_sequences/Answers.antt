use Rattle.font_theory.proofs.WritingSizeLemmas.{size-sequenced}
use Rattle.font_theory.proofs.files.size_with_sequences.Goals as goal

pub returns : goal.returns
returns c = size-sequenced
