use Rattle.colour_readers.proofs.TableTreeLemmas.{room_known}
use Rattle.colour_readers.proofs.table_tree.TableTree.room_after.Goals as goal

pub returns : goal.returns
returns c = room_known c.args.self.now c.args.room _ c.room_after.ensures
