use Rattle.cut_laws.proofs.DropCutLemmas.{cut-without}
use Rattle.cut_laws.proofs.laws.dropping_keeps_cut.Goals as goal

pub returns : goal.returns
returns c = cut-without
