use Rattle.font_theory.proofs.HeldLemmas.{KeepsComponents-closed, some-padded}
use Rattle.font_theory.proofs.cuts.closed_keeps.Goals as goal

pub returns : goal.returns
returns c = λ K ok. (KeepsComponents-closed K ok, some-padded K ok)
