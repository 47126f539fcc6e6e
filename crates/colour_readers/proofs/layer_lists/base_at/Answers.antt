use Rattle.std.proofs.Common.{arith}
use Rattle.colour_readers.proofs.LayerListLemmas.{base_there}
use Rattle.colour_readers.proofs.layer_lists.base_at.Goals as goal

pub returns : goal.returns
returns c =
    base_there _ _ _ _ _ _ c.requires (omega (arith, c.u32_at.ensures, c.from.ensures)) c.u16_at-glyph.ensures
    c.u16_at-first.ensures c.u16_at-count.ensures
