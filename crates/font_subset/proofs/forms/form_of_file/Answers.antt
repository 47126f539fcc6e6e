use Rattle.std.proofs.Common.{◌≢◌, inl, inr}
use Rattle.font_theory.specs.declared.kinds.Kind.TheVariants.{Full}
use Rattle.font_subset.proofs.FormLemmas.{layout_other, lean_other, not_now, not_old, not_other, now_is, old_is}
use Rattle.font_subset.proofs.FormLemmas.{variable_other}
use Rattle.font_subset.proofs.forms.form_of_file.Goals as goal

pub returns-then-is_whole_file : goal.returns-then-is_whole_file
returns-then-is_whole_file g c K spells =
    now_is c.args.kind _ K c.args.bytes.now spells (c.is_whole_file.ensures.0 c.if-is_whole_file.true)

pub returns-then-is_whole_file-2 : goal.returns-then-is_whole_file-2
returns-then-is_whole_file-2 g c K spells = (
  not_now c.args.kind _ K c.args.bytes.now spells (λ h. (let t = c.is_whole_file.ensures.1 h in cc)),
  old_is c.args.kind _ K c.args.bytes.now spells c.in-Full.is
      (c.is_whole_file-in-Full.ensures.0 c.if-is_whole_file-2.true),
)

pub returns-else-is_whole_file-2 : goal.returns-else-is_whole_file-2
returns-else-is_whole_file-2 g c K spells = (
  not_now c.args.kind _ K c.args.bytes.now spells (λ h. (let t = c.is_whole_file.ensures.1 h in cc)),
  not_old c.args.kind _ K c.args.bytes.now spells c.in-Full.is
      (λ h. (let t = c.is_whole_file-in-Full.ensures.1 h in cc)),
)

pub returns-in-Lean : goal.returns-in-Lean
returns-in-Lean g c K spells =
    let other : c.args.kind ≢ Full = elim c.in-Lean.is [
      | inl e ↦ lean_other c.args.kind e
      | inr w ↦ elim w [ inl e ↦ layout_other c.args.kind e | inr e ↦ variable_other c.args.kind e ]
    ] in (
      not_now c.args.kind _ K c.args.bytes.now spells (λ h. (let t = c.is_whole_file.ensures.1 h in cc)),
      not_other c.args.kind _ K c.args.bytes.now spells other (λ h. (let t = c.is_whole_file.ensures.1 h in cc)),
    )
