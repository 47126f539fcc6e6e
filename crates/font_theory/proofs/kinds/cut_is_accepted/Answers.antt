use Rattle.font_theory.specs.Kinds.{settings}
use Rattle.font_theory.proofs.KindLemmas.{settings-are}
use Rattle.font_theory.proofs.KindFileLemmas.{findings_of-cut, font_by-cut}
use Rattle.font_theory.proofs.kinds.cut_is_accepted.Goals as goal

pub returns : goal.returns
returns c = λ kind file wanted accepted small.
    let s = settings kind in
    let is = settings-are kind in
    let read = font_by-cut s is file accepted wanted small in
    (read.0, findings_of-cut s is file accepted wanted, read.1)
