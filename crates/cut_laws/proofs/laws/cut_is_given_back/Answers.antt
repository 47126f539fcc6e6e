use Rattle.cut_laws.proofs.ListedLemmas.{given_back}
use Rattle.cut_laws.proofs.laws.cut_is_given_back.Goals as goal

pub returns : goal.returns
returns c = given_back
