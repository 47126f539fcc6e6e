use Rattle.std.proofs.Common.{refl}
use Rattle.font_theory.proofs.SequencePartLemmas.{IsParting-by}
use Rattle.sequence_parts.proofs.laws.sequences_are_divided.Goals as goal

pub returns : goal.returns
returns c = IsParting-by _ (λ c ps are few. refl)
