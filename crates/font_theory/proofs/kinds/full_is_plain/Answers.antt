use Rattle.font_theory.proofs.KindLemmas.{full-is, full_fault-is, full_font-is, lean_fault-is, lean_tables-is}
use Rattle.font_theory.proofs.kinds.full_is_plain.Goals as goal

pub returns : goal.returns
returns c = (full-is, λ X. (full_fault-is X, lean_fault-is X, full_font-is X, lean_tables-is X))
