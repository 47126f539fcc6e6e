use Rattle.cmap_subtables.proofs.GroupLemmas.{stretch_of_group}
use Rattle.cmap_subtables.proofs.format12.stretch_by_group.Goals as goal

pub returns-in-Some : goal.returns-in-Some
returns-in-Some c = stretch_of_group _ _ _ _ _ _ _ c.in-Some.is c.requires c.run_in_group.ensures
