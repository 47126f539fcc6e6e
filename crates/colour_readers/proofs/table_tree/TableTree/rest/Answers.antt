use Rattle.std.proofs.Common.{◌∙◌, ap}
use Rattle.colour_tables.specs.Paints.{rest_of}
use Rattle.colour_readers.proofs.TableTreeLemmas.{known}
use Rattle.colour_readers.proofs.table_tree.TableTree.rest.Goals as goal

pub returns : goal.returns
returns c =
    c.rest_of.ensures ∙ ap (rest_of c.args.self.now.shape) c.bytes_from.ensures ∙ (known c.args.self.now).rest
