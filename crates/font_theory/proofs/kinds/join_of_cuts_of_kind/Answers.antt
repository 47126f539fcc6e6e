use Rattle.std.proofs.Common.{inl, refl}
use Rattle.font_theory.specs.Kinds.{format_by, format_of, settings}
use Rattle.font_theory.proofs.KindLemmas.{settings-are}
use Rattle.font_theory.proofs.CutLemmas.{CanJoin-cuts, joined-cuts}
use Rattle.font_theory.proofs.SettingsLemmas.{format_by-is}
use Rattle.font_theory.proofs.kinds.join_of_cuts_of_kind.Goals as goal

pub returns : goal.returns
unfolding format_by
returns c = λ kind file accepted A B sA sB. let R = format_of kind in let law = format_by-is (settings kind)
    (settings-are kind) in (
      CanJoin-cuts R law file accepted A B _ _ (inl refl) (inl refl) sA sB,
      joined-cuts R law file accepted A B _ _ (inl refl) (inl refl) sA sB,
    )
