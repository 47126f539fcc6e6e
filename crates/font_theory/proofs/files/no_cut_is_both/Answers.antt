use Rattle.font_theory.proofs.WritingLemmas.{no_cut-both}
use Rattle.font_theory.proofs.files.no_cut_is_both.Goals as goal

pub returns : goal.returns
returns c = no_cut-both
