use Rattle.std.proofs.Common.{length, refl}
use Rattle.font_subset.proofs.CutLemmas.{passed_on}
use Rattle.fontcut_c.proofs.ClosureLemmas.{text_refused}
use Rattle.fontcut_c.proofs.text_ranges.listed_to.Goals as goal

pub returns-in_err-listed : goal.returns-in_err-listed
returns-in_err-listed c = passed_on _ _ c.from_residual.result _ c.from_residual.ensures.1
    (refl, text_refused (length c.args.out.now) c.in_err-listed.field-0.0 c.in_err-listed.ensures)
