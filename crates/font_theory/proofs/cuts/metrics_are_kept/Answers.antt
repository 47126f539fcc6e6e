use Rattle.std.proofs.Common.{ap}
use Rattle.font_theory.proofs.FontLemmas.{metric_of-same}
use Rattle.font_theory.proofs.cuts.metrics_are_kept.Goals as goal

pub returns : goal.returns
returns c = λ file other A same. metric_of-same file other (ap (λ F. F.copied) same)
