use Rattle.std.proofs.Common.{◌+◌, ◌*◌, arith}
use Rattle.colour_readers.proofs.LayerListLemmas.{layer_is}
use Rattle.colour_readers.proofs.layer_lists.layer_at.Goals as goal

pub returns : goal.returns
returns c =
    layer_is _ _ (c.u32_at.result + 4 * c.from.result + 4 * c.from-2.result) _ _ _ c.requires
    (omega (arith, c.u32_at.ensures, c.from.ensures, c.from-2.ensures)) c.u16_at-glyph.ensures
    c.u16_at-palette_entry.ensures
