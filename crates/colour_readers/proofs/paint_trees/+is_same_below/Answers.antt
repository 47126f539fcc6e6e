use Rattle.std.proofs.Common.{◌-◌, ◌<◌, ap, arith, drop, refl}
use Rattle.colour_tables.specs.PaintLists.{layer_places_of}
use Rattle.colour_tables.specs.Paints.{tree_at}
use Rattle.colour_readers.specs.Trees.{link_count}
use Rattle.colour_readers.proofs.ShapeLemmas.{link_end}
use Rattle.colour_readers.proofs.SameLemmas.{apart, below_begins, below_end, below_next, link_splits, same_count}
use Rattle.colour_readers.proofs.paint_trees.+is_same_below.Goals as goal

pub returns-in_default-clause-other : goal.returns-in_default-clause-other
returns-in_default-clause-other t c _ =
    apart _ _ _ (layer_places_of c.args.t.now) (layer_places_of c.args.u.now) c.args.depth _ _ _ (omega arith)
    c.requires.first (c.in_default.ensures.other refl)

pub loop-i-init : goal.loop-i-init
loop-i-init t c =
    below_begins _ _ _ (layer_places_of c.args.t.now) (layer_places_of c.args.u.now) c.args.depth _ _ _ _ (omega arith)
    c.in-Some.ensures.same c.requires.first c.requires.second

pub is_same_below-requires : goal.is_same_below-requires
is_same_below-requires t c =
    let s = c.in-Some.shape in
    let b = drop c.args.at c.args.t.now in
    let inside : c.loop-i.i < link_count s b =
    omega (arith, c.loop-i-test.true, c.count_links-i-end.ensures, ap (link_count s) c.bytes_from.ensures) in
    let are =
    link_splits (tree_at c.args.n c.args.t.now (layer_places_of c.args.t.now) (c.args.depth - 1))
    (tree_at c.args.n c.args.u.now (layer_places_of c.args.u.now) (c.args.depth - 1)) _ _ s c.args.at c.args.other b
    (drop c.args.other c.args.u.now) c.loop-i.i c.link_at-place.result c.link_at-other_place.result _ _
    c.in-Some.ensures.same.fields inside c.link_at-place.ensures c.link_at-other_place.ensures c.loop-i.invariant in
    (omega arith, (are.some, are.some_other))

pub returns-then-not-is_same_below-clause-other : goal.returns-then-not-is_same_below-clause-other
returns-then-not-is_same_below-clause-other t c _ e =
    let s = c.in-Some.shape in
    let b = drop c.args.at c.args.t.now in
    let inside : c.loop-i.i < link_count s b =
    omega (arith, c.loop-i-test.true, c.count_links-i-end.ensures, ap (link_count s) c.bytes_from.ensures) in
    let are =
    link_splits (tree_at c.args.n c.args.t.now (layer_places_of c.args.t.now) (c.args.depth - 1))
    (tree_at c.args.n c.args.u.now (layer_places_of c.args.u.now) (c.args.depth - 1)) _ _ s c.args.at c.args.other b
    (drop c.args.other c.args.u.now) c.loop-i.i c.link_at-place.result c.link_at-other_place.result _ _
    c.in-Some.ensures.same.fields inside c.link_at-place.ensures c.link_at-other_place.ensures c.loop-i.invariant in
    c.is_same_below.ensures.other c.if-not-is_same_below.true (are.down e)

pub loop-i-preserved : goal.loop-i-preserved
loop-i-preserved t c =
    let s = c.in-Some.shape in
    let b = drop c.args.at c.args.t.now in
    let inside : c.loop-i.i < link_count s b =
    omega (arith, c.loop-i-test.true, c.count_links-i-end.ensures, ap (link_count s) c.bytes_from.ensures) in
    let are =
    link_splits (tree_at c.args.n c.args.t.now (layer_places_of c.args.t.now) (c.args.depth - 1))
    (tree_at c.args.n c.args.u.now (layer_places_of c.args.u.now) (c.args.depth - 1)) _ _ s c.args.at c.args.other b
    (drop c.args.other c.args.u.now) c.loop-i.i c.link_at-place.result c.link_at-other_place.result _ _
    c.in-Some.ensures.same.fields inside c.link_at-place.ensures c.link_at-other_place.ensures c.loop-i.invariant in
    below_next _ _ _ _ _ _ _ _ are (c.is_same_below.ensures.same c.if-not-is_same_below.false)

pub returns-clause-same : goal.returns-clause-same
returns-clause-same t c _ =
    let s = c.in-Some.shape in
    let b = drop c.args.at c.args.t.now in
    below_end _ _ _ _ _ _ (link_end _ s _ b c.loop-i.i
    (omega (arith, c.loop-i-test.false, c.count_links-i-end.ensures, ap (link_count s) c.bytes_from.ensures)))
    (link_end _ s _ (drop c.args.other c.args.u.now) c.loop-i.i
    (omega (
      arith,
      c.loop-i-test.false,
      c.count_links-i-end.ensures,
      ap (link_count s) c.bytes_from.ensures,
      same_count s b (drop c.args.other c.args.u.now) c.in-Some.ensures.same.fields,
    )))
    c.loop-i.invariant
