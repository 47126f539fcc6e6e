use Rattle.std.proofs.Common.{arith, ap}
use Rattle.font_tables.specs.Fields.{glyph_count_of}
use Rattle.font_tables.proofs.TableLemmas.{has_outline}
use Rattle.font_tables.proofs.tables.Tables.outline.Goals as goal

pub outline_within-requires : goal.outline_within-requires
outline_within-requires c =
    let kept = c.self.invariant in let low = c.requires in let same = ap glyph_count_of c.self.view_is in
    has_outline _ _ _ _ c.args.g kept.sound kept.loca_is kept.glyf_is kept.form_is (omega arith)
