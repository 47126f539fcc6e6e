use Rattle.std.proofs.Common.{arith, ap, ◌∙◌}
use Rattle.colour_tables.specs.PaintLists.{count_at}
use Rattle.colour_tables.specs.Paints.{place_from}
use Rattle.colour_readers.proofs.ShapeLemmas.{place_past, place_there}
use Rattle.colour_readers.proofs.shapes.layer_place.Goals as goal

pub returns-then-count_at-i : goal.returns-then-count_at-i
returns-then-count_at-i c =
    place_past _ _ (omega (
      arith,
      c.if-count_at-i.true,
      c.count_at.ensures,
      ap (λ x. count_at c.args.t.now x 0)
          c.u32_at-list.ensures,
    ))

pub returns : goal.returns
returns c =
    c.place_from.ensures ∙ ap (λ x. place_from x c.u32_at-offset.result) c.u32_at-list.ensures
    ∙ place_there _ _ _ _
    (omega (
      arith,
      c.if-count_at-i.false,
      c.count_at.ensures,
      ap (λ x. count_at c.args.t.now x 0)
          c.u32_at-list.ensures,
    ))
    (omega (arith, c.u32_at-list.ensures)) c.u32_at-offset.ensures
