use Rattle.codes.proofs.FewestLemmas.{run_is_first}
use Rattle.font_map.proofs.laws.run_is_first_group.Goals as goal

pub returns : goal.returns
returns c = run_is_first
