use Rattle.std.proofs.Common.{◌∙◌, ap, find}
use Rattle.font_tables.specs.Refusals.{is_missing}
use Rattle.font_tables.proofs.SlotLemmas.{required_slots}
use Rattle.font_tables.proofs.tables.missing_table.Goals as goal

pub returns : goal.returns
returns c = c.first_missing.ensures ∙ ap (find (is_missing c.args.directory.now)) required_slots
