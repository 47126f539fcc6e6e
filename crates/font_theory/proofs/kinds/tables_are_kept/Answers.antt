use Rattle.font_theory.specs.Kinds.{settings}
use Rattle.font_theory.proofs.KindLemmas.{settings-are}
use Rattle.font_theory.proofs.KindFileLemmas.{table_of-cut, table_of-undivided}
use Rattle.font_theory.proofs.kinds.tables_are_kept.Goals as goal

pub returns : goal.returns
returns c = λ kind file wanted accepted slot f. let s = settings kind in let is = settings-are kind in
    (table_of-cut s is file accepted wanted slot f, table_of-undivided s is file accepted wanted slot f)
