use Rattle.sequence_parts.proofs.LawLemmas.{own_parts_of_font}
use Rattle.sequence_parts.proofs.laws.font_has_own_parts.Goals as goal

pub returns : goal.returns
returns c = own_parts_of_font
