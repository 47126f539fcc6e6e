use Rattle.std.proofs.Common.{◌+◌, ◌*◌, ap, arith, ◌∙◌}
use Rattle.colour_tables.specs.Paints.{place_from}
use Rattle.colour_readers.proofs.PaintListLemmas.{root_there}
use Rattle.colour_readers.proofs.paint_lists.root_at.Goals as goal

pub returns : goal.returns
returns c =
    root_there _ _ (c.u32_at-list.result + 4 + 6 * c.args.i) _ _ _ c.requires (omega (arith, c.u32_at-list.ensures))
    c.u16_at-glyph.ensures c.u32_at-offset.ensures
    (c.place_from-place.ensures ∙ ap (λ m. place_from m c.u32_at-offset.result) c.u32_at-list.ensures)
