use Rattle.std.proofs.Common.{List, ℕ, ap, ◌∙◌}
use Rattle.sfnt_bytes.specs.Directory.{kept_tag, table_of}
use Rattle.sfnt_bytes.specs.declared.directory.TheConstants.{MAX_FILE}
use Rattle.font_subset.proofs.SourceLemmas.{looked_up, table_small}
use Rattle.font_subset.proofs.accepted.copied.Goals as goal

pub returns-clause-small : goal.returns-clause-small
returns-clause-small c =
    looked_up (λ b. b.now) c.table.result (table_of c.args.font.now (kept_tag c.args.slot)) MAX_FILE
    (c.table.ensures ∙ ap (λ (file : List ℕ). table_of file (kept_tag c.args.slot)) (c.directory.ensures.directory
    ∙ c.tables.ensures.tables))
    (table_small c.args.font.now (kept_tag c.args.slot) c.tables.ensures.sound)
