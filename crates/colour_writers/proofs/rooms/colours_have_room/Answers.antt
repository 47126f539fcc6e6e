use Rattle.std.proofs.Common.{arith}
use Rattle.colour_writers.proofs.RoomLemmas.{colours_end, no_colour_room, no_layer_room}
use Rattle.colour_writers.proofs.rooms.colours_have_room.Goals as goal

pub returns-then-not-layers_have_room : goal.returns-then-not-layers_have_room
returns-then-not-layers_have_room g c =
    no_layer_room c.args.n (g.C.Coloured.colours c.args.colours.now) _ c.layers_have_room.ensures
    c.if-not-layers_have_room.true

pub returns-in-None : goal.returns-in-None
returns-in-None g c =
    no_colour_room c.args.n c.loop-g.g c.loop-g.left (g.C.Coloured.colours c.args.colours.now)
    (omega (arith, c.loop-g-test.true)) c.in-None.ensures c.loop-g.invariant

pub returns : goal.returns
returns g c =
    colours_end c.args.n c.loop-g.g c.loop-g.left (g.C.Coloured.colours c.args.colours.now) _
    (omega (arith, c.loop-g-test.false)) (omega (arith, c.loop-g.auto.g-end)) c.layers_have_room.ensures
    c.if-not-layers_have_room.false c.loop-g.invariant
