use Rattle.std.proofs.Common.{◌∙◌, sym}
use Rattle.divided_tables.proofs.MadeLemmas.{looked_up, replaced_divided, replaced_other}
use Rattle.divided_tables.proofs.all_tables.MadeTables.or_copied.Goals as goal

pub returns-then-is_divided-clause-table : goal.returns-then-is_divided-clause-table
returns-then-is_divided-clause-table g c = λ copied e.
    looked_up (λ b. b.now) c.table.result _ c.table.ensures.table
    ∙ replaced_divided copied c.args.self.now c.args.slot (sym c.is_divided.ensures ∙ c.if-is_divided.true)

pub returns-clause-table : goal.returns-clause-table
returns-clause-table g c = λ copied e.
    e ∙ replaced_other copied c.args.self.now c.args.slot (sym c.is_divided.ensures ∙ c.if-is_divided.false)
