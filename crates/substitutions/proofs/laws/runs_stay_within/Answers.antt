use Rattle.substitutions.proofs.RunLemmas.{accepted_steps, run_within}
use Rattle.substitutions.proofs.laws.runs_stay_within.Goals as goal

pub returns : goal.returns
returns c = λ table accepted has closed list last run all.
    run_within table _ (accepted_steps table accepted) has closed run all
