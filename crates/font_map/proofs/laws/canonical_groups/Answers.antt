use Rattle.codes.proofs.RunLemmas.{canonical}
use Rattle.font_map.proofs.laws.canonical_groups.Goals as goal

pub returns : goal.returns
returns c = canonical
