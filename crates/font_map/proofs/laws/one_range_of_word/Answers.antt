use Rattle.codes.proofs.WordLemmas.{one_range}
use Rattle.font_map.proofs.laws.one_range_of_word.Goals as goal

pub returns : goal.returns
returns c = one_range
