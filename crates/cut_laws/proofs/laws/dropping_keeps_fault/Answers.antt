use Rattle.cut_laws.proofs.DropFontLemmas.{fault-without}
use Rattle.cut_laws.proofs.laws.dropping_keeps_fault.Goals as goal

pub returns : goal.returns
returns c = fault-without
