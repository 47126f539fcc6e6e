use Rattle.colour_readers.proofs.TableTreeLemmas.{known}
use Rattle.colour_readers.proofs.table_tree.TableTree.shape.Goals as goal

pub returns-clause-value : goal.returns-clause-value
returns-clause-value c = (known c.args.self.now).shape
