use Rattle.font_theory.proofs.HeldLemmas.{roots-kept}
use Rattle.font_theory.proofs.WantedLemmas.{is_kept-decides, is_root-decides}
use Rattle.font_theory.proofs.cuts.roots_are.Goals as goal

pub returns : goal.returns
returns c = (
  (λ F wanted g. let d = is_root-decides F wanted g in (d.0, d.1)),
  (λ F wanted ok g. let d = is_kept-decides F wanted ok g in (d.0, d.1)),
  roots-kept,
)
