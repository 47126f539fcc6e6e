use Rattle.std.proofs.Common.{◌≡◌, List, ℕ, ap, ◌∙◌}
use Rattle.sfnt_bytes.specs.Refusals.{is_outside}
use Rattle.sfnt_bytes.specs.Directory.{slot_tag, table_of}
use Rattle.sfnt_bytes.specs.declared.directory.TheConstants.{MAX_FILE}
use Rattle.font_subset.proofs.FurtherTableLemmas.{not_outside}
use Rattle.font_subset.proofs.SourceLemmas.{looked_up, table_small}
use Rattle.font_subset.proofs.further_tables.table_of.Goals as goal

pub table_in-requires-clause-inside : goal.table_in-requires-clause-inside
table_in-requires-clause-inside c =
    let same : c.directory.result.now ≡ c.args.font.now = c.directory.ensures.directory ∙ c.tables.ensures.tables in
    ap (λ (file : List ℕ). is_outside file (slot_tag c.args.slot)) same
    ∙ not_outside c.args.kind c.args.font.now c.args.slot c.requires.inside c.requires.from c.requires.to

pub returns-clause-small : goal.returns-clause-small
returns-clause-small c =
    looked_up (λ b. b.now) c.table_in.result (table_of c.args.font.now (slot_tag c.args.slot)) MAX_FILE
    (c.table_in.ensures ∙ ap (λ (file : List ℕ). table_of file (slot_tag c.args.slot))
    (c.directory.ensures.directory ∙ c.tables.ensures.tables))
    (table_small c.args.font.now (slot_tag c.args.slot) c.tables.ensures.sound)
