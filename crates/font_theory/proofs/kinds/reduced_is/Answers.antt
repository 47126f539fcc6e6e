use Rattle.font_theory.specs.Kinds.{settings}
use Rattle.font_theory.proofs.KindLemmas.{settings-are}
use Rattle.font_theory.proofs.DividedLemmas.{reduced-is}
use Rattle.font_theory.proofs.kinds.reduced_is.Goals as goal

pub returns : goal.returns
returns c = λ kind F wanted ok. reduced-is (settings kind).partition (settings-are kind).partition F ok wanted
