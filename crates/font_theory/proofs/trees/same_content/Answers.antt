use Rattle.font_theory.proofs.GrownLemmas.{Value-over}
use Rattle.font_theory.proofs.trees.same_content.Goals as goal

pub returns : goal.returns
returns c = λ R law files forms s t over also small few z. Value-over R law files s t z over also forms small few
