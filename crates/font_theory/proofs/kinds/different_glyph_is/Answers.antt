use Rattle.font_theory.specs.Kinds.{settings}
use Rattle.font_theory.proofs.KindLemmas.{settings-are}
use Rattle.font_theory.proofs.KindJoinLemmas.{different_glyph-is}
use Rattle.font_theory.proofs.kinds.different_glyph_is.Goals as goal

pub returns : goal.returns
returns c = λ kind. different_glyph-is (settings kind) (settings-are kind)
