use Rattle.std.proofs.Common.{◌∙◌, ℕ, List, ap, get_or}
use Rattle.colour_readers.proofs.TableTreeLemmas.{known}
use Rattle.colour_readers.proofs.table_tree.TableTree.first.Goals as goal

pub returns : goal.returns
returns c =
    c.byte_at.ensures ∙ ap (λ (b : List ℕ). get_or b 0 0) c.bytes_from.ensures ∙ (known c.args.self.now).first
