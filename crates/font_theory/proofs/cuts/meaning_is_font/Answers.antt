use Rattle.font_theory.proofs.FontLemmas.{IsFont-accepted}
use Rattle.font_theory.proofs.cuts.meaning_is_font.Goals as goal

pub returns : goal.returns
returns c = IsFont-accepted
