use Rattle.std.proofs.Common.{◌∙◌}
use Rattle.colour_readers.proofs.TableLemmas.{paint_by, paint_read_at}
use Rattle.colour_readers.proofs.open_colours.paint_of.Goals as goal

pub tree_of-requires : goal.tree_of-requires
tree_of-requires c = paint_read_at _ _ c.args.g _ c.requires c.paint_place-at.ensures

pub returns : goal.returns
returns c = c.tree_of.ensures ∙ paint_by _ _ c.args.g _ c.paint_place-at.ensures
