use Rattle.font_theory.specs.Kinds.{settings}
use Rattle.font_theory.proofs.KindLemmas.{settings-are}
use Rattle.font_theory.proofs.SettingsLemmas.{read-cut}
use Rattle.font_theory.proofs.kinds.file_of_kind_means.Goals as goal

pub returns : goal.returns
returns c = λ kind. read-cut (settings kind) (settings-are kind)
