use Rattle.codes.proofs.FewestLemmas.{fewest_groups}
use Rattle.font_map.proofs.laws.fewest_groups.Goals as goal

pub returns : goal.returns
returns c = fewest_groups
