use Rattle.font_glyph.proofs.RecordLemmas.{ComponentList-only}
use Rattle.font_glyph.proofs.laws.one_component_list.Goals as goal

pub returns : goal.returns
returns c = ComponentList-only
