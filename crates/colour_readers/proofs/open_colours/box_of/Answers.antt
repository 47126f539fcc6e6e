use Rattle.std.proofs.Common.{◌∙◌}
use Rattle.colour_readers.proofs.TableLemmas.{box_by, box_read_at}
use Rattle.colour_readers.proofs.open_colours.box_of.Goals as goal

pub tree_of-requires : goal.tree_of-requires
tree_of-requires c = box_read_at _ _ c.args.g _ c.requires c.box_place-at.ensures

pub returns : goal.returns
returns c = c.tree_of.ensures ∙ box_by _ _ c.args.g _ c.box_place-at.ensures
