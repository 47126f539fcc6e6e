use Rattle.font_theory.proofs.KindLemmas.{settings-are}
use Rattle.font_theory.specs.Kinds.{settings}
use Rattle.font_theory.proofs.SettingsLemmas.{IsKind-by}
use Rattle.font_theory.proofs.kinds.kinds_are_kinds.Goals as goal

pub returns : goal.returns
returns c = λ kind. (settings-are kind, IsKind-by (settings kind) (settings-are kind))
