use Rattle.font_theory.proofs.FileWantedLemmas.{map_of-wanted, outline_of-wanted}
use Rattle.font_theory.proofs.cuts.wanted_is_in_file.Goals as goal

pub returns : goal.returns
returns c = λ file other wanted accepted same x h. (
  map_of-wanted file other wanted accepted same x h,
  outline_of-wanted file other wanted accepted same x h,
)
