use Rattle.font_subset.proofs.FurtherTableLemmas.{plain_read}
use Rattle.font_subset.proofs.further_tables.FurtherTables.unread.Goals as goal

pub invariant_of-result : goal.invariant_of-result
invariant_of-result g c = plain_read c.args.kind c.args.font.now c.requires
