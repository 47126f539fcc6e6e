use Rattle.font_theory.proofs.WordLemmas.{metrics-kept}
use Rattle.font_theory.proofs.kinds.kept_metrics_are.Goals as goal

pub returns : goal.returns
returns c = λ F wanted ok. metrics-kept F ok wanted
