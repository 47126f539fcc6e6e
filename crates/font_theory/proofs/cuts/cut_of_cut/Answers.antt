use Rattle.font_theory.proofs.ContentLemmas.{content-less, content-read_back}
use Rattle.font_theory.proofs.cuts.cut_of_cut.Goals as goal

pub returns : goal.returns
returns c = λ F A B ok. (content-read_back F A B ok, content-less F A B ok)
