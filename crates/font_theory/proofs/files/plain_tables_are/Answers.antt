use Rattle.font_theory.proofs.SlotLemmas.{tables_from-plain}
use Rattle.font_theory.proofs.TagLemmas.{slot_tag-kept}
use Rattle.font_theory.proofs.files.plain_tables_are.Goals as goal

pub returns : goal.returns
returns c = λ writing K head plain. (tables_from-plain writing K head plain, slot_tag-kept)
