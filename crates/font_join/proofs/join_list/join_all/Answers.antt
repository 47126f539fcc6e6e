use Rattle.std.proofs.Common.{refl}
use Rattle.font_theory.specs.declared.kinds.Kind.TheVariants.{Full}
use Rattle.font_theory.proofs.KindLemmas.{misfit-kind}
use Rattle.font_join.proofs.join_list.join_all.Goals as goal

pub returns-clause-fits : goal.returns-clause-fits
returns-clause-fits g c = c.join_all_of_kind.ensures.fits (misfit-kind Full refl)
