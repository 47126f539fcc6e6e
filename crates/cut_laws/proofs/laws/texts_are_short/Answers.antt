use Rattle.cut_laws.proofs.TextLemmas.{texts-short}
use Rattle.cut_laws.proofs.laws.texts_are_short.Goals as goal

pub returns : goal.returns
returns c = texts-short
