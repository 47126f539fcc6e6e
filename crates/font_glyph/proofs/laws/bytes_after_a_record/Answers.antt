use Rattle.font_glyph.proofs.RecordLemmas.{ComponentList-append}
use Rattle.font_glyph.proofs.laws.bytes_after_a_record.Goals as goal

pub returns : goal.returns
returns c = ComponentList-append
