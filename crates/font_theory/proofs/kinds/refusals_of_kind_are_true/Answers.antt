use Rattle.font_theory.specs.Kinds.{format_by, format_of, settings}
use Rattle.font_theory.proofs.KindLemmas.{settings-are}
use Rattle.font_theory.proofs.RefusalLemmas.{different-under, no_cut-under, refused-under, unfit-under}
use Rattle.font_theory.proofs.SettingsLemmas.{format_by-is}
use Rattle.font_theory.proofs.kinds.refusals_of_kind_are_true.Goals as goal

pub returns : goal.returns
unfolding format_by
returns c = λ kind. let R = format_of kind in let law = format_by-is (settings kind) (settings-are kind) in (
  refused-under R law,
  no_cut-under R law,
  λ X Y F x y. different-under R law X Y x y F,
  λ X Y F x y. unfit-under R law X Y x y F,
)
