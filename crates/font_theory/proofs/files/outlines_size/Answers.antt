use Rattle.font_theory.proofs.HeldLemmas.{some-padded}
use Rattle.font_theory.proofs.SizeLemmas.{length-padded-outlines}
use Rattle.font_theory.proofs.files.outlines_size.Goals as goal

pub returns : goal.returns
returns c = λ K ok. length-padded-outlines K (some-padded K ok)
