use Rattle.font_theory.proofs.ContentLemmas.{content-mapped}
use Rattle.font_theory.proofs.cuts.wanted_counts.Goals as goal

pub returns : goal.returns
returns c = content-mapped
