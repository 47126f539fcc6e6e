use Rattle.sequence_parts.proofs.CmapLemmas.{no_map_changed}
use Rattle.sequence_parts.proofs.laws.sequences_change_no_map.Goals as goal

pub returns : goal.returns
returns c = no_map_changed
