use Rattle.font_file.proofs.FontLemmas.{is_record-opened}
use Rattle.font_file.proofs.font.Font.outline.Goals as goal

pub returns-clause-record : goal.returns-clause-record
returns-clause-record c = is_record-opened _ _ _ c.args.g c.self.view_is c.outline.ensures c.self.invariant.accepted
    c.requires
