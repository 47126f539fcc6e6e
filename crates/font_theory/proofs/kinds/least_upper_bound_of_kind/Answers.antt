use Rattle.font_theory.specs.Kinds.{format_by, format_of, settings}
use Rattle.font_theory.proofs.KindLemmas.{settings-are}
use Rattle.font_theory.proofs.CutLemmas.{IsCurrent-joined, Under-joined_left, Under-joined_right, Under-least}
use Rattle.font_theory.proofs.SettingsLemmas.{format_by-is}
use Rattle.font_theory.proofs.kinds.least_upper_bound_of_kind.Goals as goal

pub returns : goal.returns
unfolding format_by
returns c = λ kind X Y can small. let R = format_of kind in let law = format_by-is (settings kind) (settings-are
    kind) in (
      IsCurrent-joined R law X Y can small,
      Under-joined_left R law X Y can small,
      Under-joined_right R law X Y can small,
      λ F. Under-least R law X Y F can small,
    )
