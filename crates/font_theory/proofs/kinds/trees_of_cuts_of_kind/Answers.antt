use Rattle.font_theory.specs.Kinds.{format_by, format_of, settings}
use Rattle.font_theory.proofs.KindLemmas.{settings-are}
use Rattle.font_theory.proofs.TreeLemmas.{Value-cuts}
use Rattle.font_theory.proofs.SettingsLemmas.{format_by-is}
use Rattle.font_theory.proofs.kinds.trees_of_cuts_of_kind.Goals as goal

pub returns : goal.returns
unfolding format_by
returns c = λ kind. Value-cuts (format_of kind) (format_by-is (settings kind) (settings-are kind))
