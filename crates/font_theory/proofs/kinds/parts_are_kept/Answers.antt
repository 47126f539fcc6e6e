use Rattle.font_theory.specs.Kinds.{settings}
use Rattle.font_theory.proofs.KindLemmas.{settings-are}
use Rattle.font_theory.proofs.WordLemmas.{parts-reduced}
use Rattle.font_theory.proofs.kinds.parts_are_kept.Goals as goal

pub returns : goal.returns
returns c = λ kind F wanted ok. parts-reduced (settings kind).partition (settings-are kind).partition F ok wanted
