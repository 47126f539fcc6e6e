use Rattle.font_theory.proofs.ContentLemmas.{IsKept-number, IsKept-seeds, IsKept-wanted, read_back-reached, wanted-map}
use Rattle.font_theory.proofs.cuts.wanted_is_kept.Goals as goal

pub returns : goal.returns
returns c = λ F A ok. (
  (λ g r. read_back-reached F A ok g (IsKept-seeds F A ok g r)),
  (λ x h. (wanted-map F A x h, λ g r. read_back-reached F A ok g (IsKept-wanted F A ok x h g r))),
  (λ n w t g r. read_back-reached F A ok g (IsKept-number F A n w t g r)),
)
