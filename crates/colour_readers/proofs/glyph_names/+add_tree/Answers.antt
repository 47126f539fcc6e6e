use Rattle.std.proofs.Common.{◌∙◌, ◌++◌, ap, append-nil, arith, drop, sym}
use Rattle.colour_tables.specs.NamedGlyphs.{forest_names}
use Rattle.colour_tables.specs.Paints.{Forest, kinds_below}
use Rattle.colour_readers.specs.Subtrees.{tree_of}
use Rattle.colour_readers.proofs.SubtreeLemmas.{trees_end}
use Rattle.colour_readers.proofs.glyph_names.+add_tree.Goals as goal

pub returns-clause-names : goal.returns-clause-names
returns-clause-names g t c =
    let ks = drop c.loop-i.i (kinds_below (tree_of c.args.tree.now).shape (tree_of c.args.tree.now).rest) in
    sym (append-nil c.loop-i.names.items)
    ∙ ap (λ (f : Forest). c.loop-i.names.items ++ forest_names ks f)
    (sym (trees_end c.loop-i.i (tree_of c.args.tree.now).below
    (omega (arith, c.loop-i-test.false, c.count_below-i-end.ensures.value))))
    ∙ c.loop-i.invariant
