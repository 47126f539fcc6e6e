use Rattle.font_theory.proofs.FontLemmas.{size-accepted, size-refused}
use Rattle.font_theory.proofs.cuts.size_of_file.Goals as goal

pub returns : goal.returns
returns c = λ file. (size-accepted file, size-refused file)
