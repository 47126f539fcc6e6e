use Rattle.std.proofs.Common.{length, refl}
use Rattle.font_subset.proofs.CutLemmas.{passed_on}
use Rattle.fontcut_c.specs.Requests.{asked_by}
use Rattle.fontcut_c.proofs.CutLemmas.{cut_answered, file_of_source, unopened_cut}
use Rattle.fontcut_c.proofs.cutting.write_cut.Goals as goal

pub returns-in_err-opened : goal.returns-in_err-opened
returns-in_err-opened c = passed_on _ _ c.from_residual.result _ c.from_residual.ensures.1 (
  refl,
  unopened_cut c.args.kind c.args.font.now (asked_by c.args.request.now) (length c.args.out.now) c.requires
      c.in_err-opened.field-0.0 c.in_err-opened.ensures,
)

pub returns : goal.returns
returns c =
    let a = asked_by c.args.request.now in
    let is = file_of_source c.args.kind c.args.font.now a c.in_ok-opened.opened c.font.result.now c.in_ok-set.set
    c.in_ok-source.source c.in_ok-opened.ensures.0 c.font.ensures.font c.in_ok-set.ensures c.in_ok-source.ensures in
    cut_answered c.args.kind c.args.font.now a _ c.requires c.in_ok-opened.ensures.1 is
    c.args.out.now c.write_to.new.out c.write_to.result c.write_to.ensures
