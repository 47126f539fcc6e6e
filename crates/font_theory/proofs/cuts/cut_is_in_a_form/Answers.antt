use Rattle.std.proofs.Common.{inl, inr}
use Rattle.font_theory.proofs.CutLemmas.{IsCut-cases, IsCut-current, IsCut-old}
use Rattle.font_theory.proofs.cuts.cut_is_in_a_form.Goals as goal

pub returns : goal.returns
returns c = λ R X. (IsCut-cases R X, λ h. elim h [ inl a ↦ IsCut-current R X a | inr b ↦ IsCut-old R X b ])
