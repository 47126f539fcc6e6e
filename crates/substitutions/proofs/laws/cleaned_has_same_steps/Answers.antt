use Rattle.substitutions.proofs.CleanedLemmas.{cleaned_run, cleaned_step}
use Rattle.substitutions.proofs.laws.cleaned_has_same_steps.Goals as goal

pub returns : goal.returns
returns c = λ table after list next. (cleaned_step table after list next, cleaned_run table after list next)
