use Rattle.std.proofs.Common.{◌+◌, ◌*◌, ap, arith, ◌∙◌}
use Rattle.colour_tables.specs.Paints.{place_from}
use Rattle.colour_readers.proofs.PaintListLemmas.{clip_there}
use Rattle.colour_readers.proofs.paint_lists.clip_at.Goals as goal

pub returns : goal.returns
returns c =
    clip_there _ _ (c.u32_at-list.result + 5 + 7 * c.args.i) _ _ _ _ c.requires (omega (arith, c.u32_at-list.ensures))
    c.u16_at-first.ensures c.u16_at-last.ensures c.u24_at-offset.ensures.value
    (c.place_from-place.ensures ∙ ap (λ m. place_from m c.u24_at-offset.result) c.u32_at-list.ensures)
