use Rattle.std.proofs.Common.{arith}
use Rattle.colour_readers.specs.Varying.{store_by}
use Rattle.colour_writers.proofs.TableLemmas.{lists_put, ordered}
use Rattle.colour_writers.proofs.made_paints.push_lists.Goals as goal

pub push_base_list-requires : goal.push_base_list-requires
push_base_list-requires g c =
    let order =
    ordered c.args.n (g.C.Coloured.colours c.args.colours.now) c.args.plan (omega (arith, c.ranges.n.fits))
    c.requires.read c.requires.plan in
    record {
      count = c.requires.plan.paints;
      size = c.requires.plan.paint_size;
      place = order.bases;
      room = order.paints;
    }

pub push_layer_list-requires : goal.push_layer_list-requires
push_layer_list-requires g c =
    let order =
    ordered c.args.n (g.C.Coloured.colours c.args.colours.now) c.args.plan (omega (arith, c.ranges.n.fits))
    c.requires.read c.requires.plan in
    record {
      count = c.requires.plan.places;
      size = c.requires.plan.paint_size;
      place = order.layers;
      room = order.paints;
    }

pub push_trees-requires : goal.push_trees-requires
push_trees-requires g c = c.requires.plan.paint_size

pub push_clip_list-requires : goal.push_clip_list-requires
push_clip_list-requires g c =
    let order =
    ordered c.args.n (g.C.Coloured.colours c.args.colours.now) c.args.plan (omega (arith, c.ranges.n.fits))
    c.requires.read c.requires.plan in
    record {
      count = c.requires.plan.boxes;
      size = c.requires.plan.box_size;
      place = order.clips;
      near = order.near;
      room = order.boxes;
    }

pub push_trees-requires-2 : goal.push_trees-requires-2
push_trees-requires-2 g c = c.requires.plan.box_size

pub returns-clause-made : goal.returns-clause-made
returns-clause-made g c =
    lists_put c.args.n (g.C.Coloured.colours c.args.colours.now) c.args.plan (store_by c.args.varies.now) _ _ _
    _ _ _ _ _
    c.requires.plan c.in_ok-push_base_list.ensures.made c.in_ok-push_layer_list.ensures.made
    c.in_ok-push_trees.ensures.made c.in_ok-push_clip_list.ensures.made c.in_ok-push_trees-2.ensures.made
    c.in_ok-append.ensures.appended c.in_ok-append-2.ensures.appended
