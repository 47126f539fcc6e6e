use Rattle.std.proofs.Common.{arith, sym, ap, ◌∙◌}
use Rattle.colour_readers.specs.Rooms.{layers_left}
use Rattle.colour_readers.proofs.LayerListLemmas.{bases_end}
use Rattle.colour_readers.proofs.layer_lists.layers_left.Goals as goal

pub returns : goal.returns
returns c =
    sym (c.loop-i.invariant
    ∙ ap (layers_left c.args.n c.args.t.now c.loop-i.left)
    (bases_end _ _ (omega (arith, c.count_bases-count.ensures))))
