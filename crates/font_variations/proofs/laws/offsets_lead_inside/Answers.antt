use Rattle.font_variations.proofs.LawLemmas.{lead_in_order}
use Rattle.font_variations.proofs.laws.offsets_lead_inside.Goals as goal

pub returns : goal.returns
returns c = lead_in_order
