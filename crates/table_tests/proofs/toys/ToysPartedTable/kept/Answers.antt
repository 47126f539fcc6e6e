use Rattle.std.proofs.Common.{[], ◌+◌, Some, ap, arith, cond, get_or, is_some, length, sym, ◌∙◌}
use Rattle.table_tests.specs.Toys.{toy}
use Rattle.table_tests.proofs.ToyLemmas.{size, toys_kept, toys_missing}
use Rattle.table_tests.proofs.toys.ToysPartedTable.kept.Goals as goal

pub returns-in-None-clause-table : goal.returns-in-None-clause-table
returns-in-None-clause-table g c =
    c.in-None.ensures.table ∙ sym (toys_missing (g.S.Source.content_of c.args.source.now) c.in-None.ensures.table)

pub returns-in_ok-bytes-in-Some-clause-table : goal.returns-in_ok-bytes-in-Some-clause-table
returns-in_ok-bytes-in-Some-clause-table g c = ap Some c.in_ok-bytes-in-Some.ensures.table
    ∙ toys_kept (g.S.Source.content_of c.args.source.now) c.in-Some.table.now c.in-Some.ensures.table

pub returns-in_ok-bytes-in-Some-clause-small : goal.returns-in_ok-bytes-in-Some-clause-small
returns-in_ok-bytes-in-Some-clause-small g c =
    let K = g.S.Source.content_of c.args.source.now in
    let same = ap length c.in_ok-bytes-in-Some.ensures.table
    ∙ size (λ h. cond (is_some (K.outline h)) (toy (get_or c.in-Some.table.now (h + 1) 0)) []) c.in-Some.table.now in
    omega (arith, same, c.in-Some.ensures.small)
