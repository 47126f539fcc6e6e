use Rattle.font_theory.specs.Kinds.{settings}
use Rattle.font_theory.proofs.KindLemmas.{settings-are}
use Rattle.font_theory.proofs.SettingsLemmas.{IsClosed-by}
use Rattle.font_theory.proofs.kinds.written_is_closed.Goals as goal

pub returns : goal.returns
returns c = λ kind. IsClosed-by (settings kind) (settings-are kind)
