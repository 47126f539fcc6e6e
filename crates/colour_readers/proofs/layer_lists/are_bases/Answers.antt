use Rattle.std.proofs.Common.{arith, sym, ap, ◌∙◌}
use Rattle.colour_tables.specs.LayerLists.{are_bases}
use Rattle.colour_readers.proofs.LayerListLemmas.{bases_end}
use Rattle.colour_readers.proofs.layer_lists.are_bases.Goals as goal

pub returns : goal.returns
returns c =
    sym (c.loop-i.invariant
    ∙ ap (are_bases c.args.n c.count_layers-layers.result c.loop-i.from)
    (bases_end _ _ (omega (arith, c.count_bases-count.ensures))))
