use Rattle.std.proofs.Common.{ap, inl, refl, ◌∙◌, sym}
use Rattle.font_file.specs.Font.{map_of}
use Rattle.font_theory.specs.Closed.{closed}
use Rattle.font_theory.specs.Cut.{cut}
use Rattle.font_theory.specs.Kinds.{format_by, format_of, settings}
use Rattle.font_theory.proofs.ClosedLemmas.{closed-either}
use Rattle.font_theory.proofs.CutLemmas.{CanJoin-cuts, joined-cuts}
use Rattle.font_theory.proofs.KindLemmas.{settings-are}
use Rattle.font_theory.proofs.SettingsLemmas.{IsFont-by, format_by-is}
use Rattle.font_theory.proofs.closing.closed_cuts_join.Goals as goal

pub returns : goal.returns
unfolding format_by
returns c = λ kind file links accepted V W sV sW.
    let R = format_of kind in
    let law = format_by-is (settings kind) (settings-are kind) in
    let m = map_of file in
    let ok = IsFont-by (settings kind) (settings-are kind) file accepted in (
      CanJoin-cuts R law file accepted (closed links m V) (closed links m W) _ _ (inl refl) (inl refl) sV sW,
      joined-cuts R law file accepted (closed links m V) (closed links m W) _ _ (inl refl) (inl refl) sV sW
          ∙ ap (cut R file) (sym (closed-either links m ok.mapped_codes V W)),
    )
