use Rattle.sequence_parts.proofs.LawLemmas
use Rattle.sequence_parts.proofs.laws.fit_without_clash.Goals as goal

pub returns : goal.returns
returns c = LawLemmas.fit_without_clash
