use Rattle.font_subset.proofs.CutLemmas.{passed_on}
use Rattle.fontcut_c.proofs.PairLemmas.{pair_refused}
use Rattle.fontcut_c.proofs.belonging.file_belongs.Goals as goal

pub returns-in_err-cut : goal.returns-in_err-cut
returns-in_err-cut c = passed_on _ _ c.from_residual.result _ c.from_residual.ensures.1
    (pair_refused c.args.kind c.args.cut.now c.args.font.now c.in_err-cut.field-0.0 c.in_err-cut.ensures)
