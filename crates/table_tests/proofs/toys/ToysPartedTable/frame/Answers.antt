use Rattle.std.proofs.Common.{[], Some, ap, arith, length, sym, ◌∙◌}
use Rattle.table_tests.proofs.ToyLemmas.{frames_missing, size, toys_framed}
use Rattle.table_tests.proofs.toys.ToysPartedTable.frame.Goals as goal

pub returns-in-None-clause-table : goal.returns-in-None-clause-table
returns-in-None-clause-table g c =
    sym (frames_missing (g.S.Source.content_of c.args.source.now).copied c.in-None.ensures.table)

pub returns-in_ok-bytes-in-Some-clause-table : goal.returns-in_ok-bytes-in-Some-clause-table
returns-in_ok-bytes-in-Some-clause-table g c = ap Some c.in_ok-bytes-in-Some.ensures.table
    ∙ toys_framed (g.S.Source.content_of c.args.source.now).copied c.in-Some.table.now c.in-Some.ensures.table

pub returns-in_ok-bytes-in-Some-clause-small : goal.returns-in_ok-bytes-in-Some-clause-small
returns-in_ok-bytes-in-Some-clause-small g c =
    let same = ap length c.in_ok-bytes-in-Some.ensures.table ∙ size (λ _. []) c.in-Some.table.now in
    omega (arith, same, c.in-Some.ensures.small)
