use Rattle.std.proofs.Common.{arith}
use Rattle.colour_writers.proofs.LayerLemmas.{no_room, room_ends}
use Rattle.colour_writers.proofs.layers.layers_have_room.Goals as goal

pub returns-in-None : goal.returns-in-None
returns-in-None g c =
    no_room (g.P.Layered.said c.args.picked.now) c.loop-g.g c.args.n c.loop-g.left _
    (omega (arith, c.loop-g-test.true)) c.layers.ensures c.in-None.ensures c.loop-g.invariant.room

pub returns : goal.returns
returns g c =
    room_ends (g.P.Layered.said c.args.picked.now) c.loop-g.g c.args.n c.loop-g.left
    (omega (arith, c.loop-g-test.false)) (omega (arith, c.loop-g.auto.g-end)) c.loop-g.invariant.each
    c.loop-g.invariant.room
