use Rattle.cut_laws.proofs.ListedLemmas.{own_renewed}
use Rattle.cut_laws.proofs.laws.own_cut_is_renewed.Goals as goal

pub returns : goal.returns
returns c = own_renewed
