use Rattle.font_theory.specs.Kinds.{settings}
use Rattle.font_theory.proofs.KindLemmas.{settings-are}
use Rattle.substitutions.proofs.FileLemmas.{shaped_kept}
use Rattle.substitutions.proofs.laws.shaped_glyphs_are_kept.Goals as goal

pub returns : goal.returns
returns c = λ kind file accepted readable bytes by W list last run wanted small.
    shaped_kept (settings kind) (settings-are kind) file accepted readable bytes by W list last run wanted small
