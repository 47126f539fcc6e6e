use Rattle.std.proofs.Common.{arith}
use Rattle.colour_tables.specs.MadePaints.{forest_of}
use Rattle.colour_tables.proofs.ByteLemmas.{listed-count}
use Rattle.colour_tables.proofs.TreeByteLemmas.{layers-least}
use Rattle.colour_writers.proofs.PlanLemmas.{has_room, plan_is}
use Rattle.colour_writers.specs.Plans.{paints_of}
use Rattle.colour_writers.proofs.plans.plan_of.Goals as goal

pub count_layers-layers-requires : goal.count_layers-layers-requires
count_layers-layers-requires g c = (has_room c.args.n (g.C.Coloured.colours c.args.colours.now) c.requires).few

pub count_trees-paints-requires : goal.count_trees-paints-requires
count_trees-paints-requires g c =
    omega (arith, (has_room c.args.n (g.C.Coloured.colours c.args.colours.now) c.requires).size)

pub count_trees-boxes-requires : goal.count_trees-boxes-requires
count_trees-boxes-requires g c =
    omega (arith, (has_room c.args.n (g.C.Coloured.colours c.args.colours.now) c.requires).size)

pub places_of-at-requires : goal.places_of-at-requires
places_of-at-requires g c =
    let x = g.C.Coloured.colours c.args.colours.now in
    let room = has_room c.args.n x c.requires in
    record {
      glyphs = omega (
        arith,
        c.count_layers-layers.ensures.glyphs,
        listed-count (λ h. (x h).layers) 0 c.args.n,
        c.ranges.n.fits,
      );
      layers = omega (arith, c.count_layers-layers.ensures.layers, room.few);
      paints = omega (
        arith,
        c.count_trees-paints.ensures.glyphs,
        listed-count (λ h. (x h).paint) 0 c.args.n,
        c.ranges.n.fits,
      );
      places = omega (
        arith,
        c.count_trees-paints.ensures.layers,
        layers-least (forest_of (paints_of c.args.n x)),
        room.size,
      );
      size = omega (arith, c.count_trees-paints.ensures.bytes, room.size);
      boxes = omega (
        arith,
        c.count_trees-boxes.ensures.glyphs,
        listed-count (λ h. (x h).box) 0 c.args.n,
        c.ranges.n.fits,
      );
      box_size = omega (arith, c.count_trees-boxes.ensures.bytes, room.size);
    }

pub returns : goal.returns
returns g c =
    plan_is c.args.n (g.C.Coloured.colours c.args.colours.now) _ (omega (arith, c.ranges.n.fits)) c.requires
    c.count_layers-layers.ensures.glyphs c.count_layers-layers.ensures.layers c.count_trees-paints.ensures.glyphs
    c.count_trees-paints.ensures.layers c.count_trees-paints.ensures.bytes c.count_trees-boxes.ensures.glyphs
    c.count_trees-boxes.ensures.bytes c.places_of-at.ensures
