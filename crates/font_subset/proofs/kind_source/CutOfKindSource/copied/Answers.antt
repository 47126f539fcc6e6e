use Rattle.divided_tables.proofs.MadeLemmas.{found_at}
use Rattle.font_subset.proofs.KindSourceLemmas.{made_not, made_some}
use Rattle.font_subset.proofs.kind_source.CutOfKindSource.copied.Goals as goal

pub returns-in-Some-clause-table : goal.returns-in-Some-clause-table
returns-in-Some-clause-table g c =
    made_some c.self.inside.selection c.args.self.now c.self.view_is c.self.inside.made c.self.invariant c.args.slot
    c.in-Some.table.now c.in-Some.ensures.table

pub returns-in-None-clause-table : goal.returns-in-None-clause-table
returns-in-None-clause-table g c = found_at (λ b. b.now) c.copied.result _ _
    (made_not c.self.inside.selection c.args.self.now c.self.view_is c.self.inside.made c.self.invariant c.args.slot
    c.in-None.ensures.table) c.copied.ensures.table
