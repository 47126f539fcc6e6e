use Rattle.font_theory.proofs.WritingLemmas.{writings_apart}
use Rattle.font_theory.proofs.files.writings_are_apart.Goals as goal

pub returns : goal.returns
returns c = writings_apart
