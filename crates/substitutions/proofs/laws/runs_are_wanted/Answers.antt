use Rattle.substitutions.proofs.ClosureLemmas.{run_wanted}
use Rattle.substitutions.proofs.laws.runs_are_wanted.Goals as goal

pub returns : goal.returns
returns c = λ table readable bytes. run_wanted table bytes readable
