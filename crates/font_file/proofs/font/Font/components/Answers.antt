use Rattle.font_glyph.proofs.RecordLemmas.{IsRecord-has_list}
use Rattle.font_file.proofs.FontLemmas.{is_record-opened}
use Rattle.font_file.proofs.font.Font.components.Goals as goal

pub of-requires : goal.of-requires
of-requires c =
    IsRecord-has_list _ _ (is_record-opened _ _ _ c.args.g c.self.view_is c.outline.ensures c.self.invariant.accepted
    c.requires)
