use Rattle.std.proofs.Common.{◌∙◌}
use Rattle.font_file.proofs.RecordLemmas.{is_record-decided}
use Rattle.font_file.proofs.font.has_record.Goals as goal

pub returns : goal.returns
returns c = c.is_ok.ensures.value ∙ is_record-decided c.args.glyphs c.args.outline.now _ c.check_record.ensures.exact.0
    c.check_record.ensures.exact.1
