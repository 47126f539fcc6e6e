use Rattle.font_theory.proofs.FileWantedLemmas.{is_kept-file}
use Rattle.font_theory.proofs.cuts.kept_is_reached.Goals as goal

pub returns : goal.returns
returns c = λ file wanted accepted g. (is_kept-file file wanted accepted g)
