use Rattle.std.proofs.Common.{◌∙◌, ap, sym}
use Rattle.colour_readers.specs.Trees.{link_count}
use Rattle.colour_readers.proofs.TableTreeLemmas.{count_known, kinds_known}
use Rattle.colour_readers.proofs.table_tree.TableTree.count_below.Goals as goal

pub returns-clause-value : goal.returns-clause-value
returns-clause-value c =
    c.count_links.ensures ∙ ap (link_count c.args.self.now.shape) c.bytes_from.ensures ∙ count_known c.args.self.now

pub returns-clause-kinds : goal.returns-clause-kinds
returns-clause-kinds c =
    kinds_known c.args.self.now
    ∙ sym (c.count_links.ensures ∙ ap (link_count c.args.self.now.shape) c.bytes_from.ensures)
