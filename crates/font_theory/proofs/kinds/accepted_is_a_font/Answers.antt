use Rattle.font_theory.specs.Kinds.{settings}
use Rattle.font_theory.proofs.KindLemmas.{settings-are}
use Rattle.font_theory.proofs.KindFileLemmas.{font_of-by}
use Rattle.font_theory.proofs.SettingsLemmas.{IsFont-by, font_fault-by}
use Rattle.font_theory.proofs.kinds.accepted_is_a_font.Goals as goal

pub returns : goal.returns
returns c = λ kind file. let s = settings kind in let is = settings-are kind in
    (λ h. (font_fault-by s is file h, IsFont-by s is file h), font_of-by s is file)
