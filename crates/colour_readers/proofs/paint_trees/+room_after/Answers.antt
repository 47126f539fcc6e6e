use Rattle.std.proofs.Common.{◌-◌, ◌+◌, ◌<◌, ◌∷◌, ap, arith, drop, sym, ◌∙◌}
use Rattle.colour_tables.specs.PaintLists.{layer_places_of}
use Rattle.colour_tables.specs.Paints.{links_of, tree_at}
use Rattle.colour_readers.specs.Trees.{link_count, rooms}
use Rattle.colour_readers.proofs.ShapeLemmas.{link_end, link_there}
use Rattle.colour_readers.proofs.TreeLemmas.{rooms_fail, rooms_more, walk_begins, walk_no_room, walk_no_shape}
use Rattle.colour_readers.proofs.paint_trees.+room_after.Goals as goal

pub returns-in_err-shape : goal.returns-in_err-shape
returns-in_err-shape t c =
    c.from_residual.ensures
    ∙ walk_no_shape _ _ (layer_places_of c.args.t.now) c.args.depth _ _ c.args.room (omega arith)
    (sym c.in_err-shape.was ∙ c.shape_at.ensures.value)

pub returns-in_err-left : goal.returns-in_err-left
returns-in_err-left t c =
    c.from_residual-in_err-left.ensures
    ∙ walk_no_room _ _ (layer_places_of c.args.t.now) c.args.depth _ _ c.args.room _ _ (omega arith)
    c.in_ok-shape.ensures.value c.size_of.ensures
    c.in_err-left.ensures

pub loop-i-init : goal.loop-i-init
loop-i-init t c =
    walk_begins _ _ (layer_places_of c.args.t.now) _ _ _ _ _ _ _ (omega arith) c.in_ok-shape.ensures.value
    c.size_of.ensures
    c.in_ok-left.ensures.0 c.in_ok-left.ensures.1

pub returns-in_err-left-2 : goal.returns-in_err-left-2
returns-in_err-left-2 t c =
    let layers = layer_places_of c.args.t.now in
    let s = c.in_ok-shape.shape in
    let b = drop c.args.at c.args.t.now in
    let inside : c.loop-i.i < link_count s b =
    omega (arith, c.loop-i-test.true, c.count_links-i-end.ensures, ap (link_count s) c.bytes_from.ensures) in
    c.from_residual-in_err-left-2.ensures
    ∙ sym (c.loop-i.invariant
    ∙ rooms_fail (tree_at c.args.n c.args.t.now layers (c.args.depth - 1)) c.loop-i.left _ _ c.link_at-place.result
    (link_there layers s c.args.at b c.loop-i.i inside
    ∙ ap (λ x. x ∷ drop (c.loop-i.i + 1) (links_of layers s c.args.at b)) (sym c.link_at-place.ensures))
    (sym c.in_err-left-2.was ∙ c.room_after.ensures))

pub loop-i-preserved : goal.loop-i-preserved
loop-i-preserved t c =
    let layers = layer_places_of c.args.t.now in
    let s = c.in_ok-shape.shape in
    let b = drop c.args.at c.args.t.now in
    let inside : c.loop-i.i < link_count s b =
    omega (arith, c.loop-i-test.true, c.count_links-i-end.ensures, ap (link_count s) c.bytes_from.ensures) in
    c.loop-i.invariant
    ∙ rooms_more (tree_at c.args.n c.args.t.now layers (c.args.depth - 1)) c.loop-i.left _ _ _ c.link_at-place.result
    (link_there layers s c.args.at b c.loop-i.i inside
    ∙ ap (λ x. x ∷ drop (c.loop-i.i + 1) (links_of layers s c.args.at b)) (sym c.link_at-place.ensures))
    (sym c.in_ok-left-2.was ∙ c.room_after.ensures)

pub returns : goal.returns
returns t c =
    let layers = layer_places_of c.args.t.now in
    let s = c.in_ok-shape.shape in
    let b = drop c.args.at c.args.t.now in
    sym (c.loop-i.invariant
    ∙ ap (rooms (tree_at c.args.n c.args.t.now layers (c.args.depth - 1)) c.loop-i.left)
    (link_end layers s c.args.at b c.loop-i.i
    (omega (arith, c.loop-i-test.false, c.count_links-i-end.ensures, ap (link_count s) c.bytes_from.ensures))))
