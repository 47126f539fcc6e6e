use Rattle.cut_laws.proofs.ListedLemmas.{closed_plain}
use Rattle.cut_laws.proofs.laws.closed_cut_is_plain.Goals as goal

pub returns : goal.returns
returns c = closed_plain
