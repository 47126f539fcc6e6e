use Rattle.font_subset.proofs.FurtherTableLemmas.{tags_refused}
use Rattle.font_subset.proofs.further_tables.FurtherTables.read.Goals as goal

pub returns-in-Err-clause-exact : goal.returns-in-Err-clause-exact
returns-in-Err-clause-exact g c = tags_refused c.args.kind c.args.font.now c.in-Err.error c.recall_accepted.ensures
    c.in-Err.ensures
