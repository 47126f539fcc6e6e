use Rattle.std.proofs.Common.{ap, arith, ◌+◌, []}
use Rattle.colour_tables.specs.PaintLists.{forest_size}
use Rattle.colour_readers.specs.Subtrees.{tree_of, trees_after}
use Rattle.colour_readers.proofs.SubtreeLemmas.{trees_end}
use Rattle.colour_writers.proofs.WrittenLemmas.{places_begin, places_end, places_put, size_with}
use Rattle.colour_writers.proofs.made_trees.+push_places.Goals as goal

pub loop-i-init : goal.loop-i-init
loop-i-init g t c =
    record {
      put = places_begin c.args.made.now.items c.push_own_places.new.made.items [] c.args.list c.args.at
          (c.args.at + c.shape_length.result) (tree_of c.args.tree.now) (omega (arith, c.shape_length.ensures))
          c.in_ok-push_own_places.ensures.made;
      next = omega (arith, c.shape_length.ensures);
      least = omega (arith, c.requires.place);
    }

pub loop-i-preserved : goal.loop-i-preserved
loop-i-preserved g t c =
    record {
      put = places_put c.loop-i.made.items c.push_places.new.made.items _ c.args.list c.loop-i.place c.in_ok-place.place
          (tree_of c.below.result) (trees_after c.loop-i.i (tree_of c.args.tree.now).below)
          (trees_after (c.loop-i.i + 1) (tree_of c.args.tree.now).below) c.below.ensures.tree c.in_ok-place.ensures.made
          c.in_ok-place.ensures.next c.loop-i.invariant.put;
      next = omega (
        arith,
        size_with _ _ _ c.below.ensures.tree,
        c.in_ok-place.ensures.next,
        c.loop-i.invariant.next,
      );
      least = omega (arith, c.in_ok-place.ensures.next, c.loop-i.invariant.least);
    }

pub returns-clause-made : goal.returns-clause-made
returns-clause-made g t c =
    places_end c.loop-i.made.items _ c.args.list c.loop-i.place c.loop-i.i (tree_of c.args.tree.now).below
    (omega (arith, c.loop-i-test.false, c.count_below-i-end.ensures.value)) c.loop-i.invariant.put

pub returns-clause-next : goal.returns-clause-next
returns-clause-next g t c =
    let none =
    ap forest_size (trees_end c.loop-i.i (tree_of c.args.tree.now).below
    (omega (arith, c.loop-i-test.false, c.count_below-i-end.ensures.value))) in
    omega (arith, none, c.loop-i.invariant.next)
