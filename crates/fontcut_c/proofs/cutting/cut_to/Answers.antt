use Rattle.std.proofs.Common.{length, refl}
use Rattle.font_subset.proofs.CutLemmas.{passed_on}
use Rattle.fontcut_c.specs.Requests.{asked_by}
use Rattle.fontcut_c.proofs.CutLemmas.{cut_refused}
use Rattle.fontcut_c.proofs.cutting.cut_to.Goals as goal

pub returns-in_err-font : goal.returns-in_err-font
returns-in_err-font c =
    passed_on _ _ c.from_residual.result _ c.from_residual.ensures.1 (
      refl,
      cut_refused c.args.kind c.args.file.now (asked_by c.args.request.now) (length c.args.out.now)
          c.in_err-font.field-0.0 c.in_err-font.ensures,
    )
