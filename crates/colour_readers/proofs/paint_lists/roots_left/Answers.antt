use Rattle.std.proofs.Common.{arith, ap, sym, ◌∙◌}
use Rattle.colour_tables.specs.PaintLists.{count_at}
use Rattle.colour_readers.specs.Rooms.{roots_left}
use Rattle.colour_readers.proofs.PaintListLemmas.{roots_end}
use Rattle.colour_readers.proofs.paint_lists.roots_left.Goals as goal

pub returns-clause-value : goal.returns-clause-value
returns-clause-value c =
    let count = ap (λ m. count_at c.args.t.now m 0) c.u32_at.ensures in
    sym (c.loop-i.invariant.same
    ∙ ap (roots_left c.args.n c.args.t.now c.loop-i.left c.loop-i.from)
    (roots_end _ _ (omega (arith, c.loop-i-test.false, c.count_at-count.ensures, count))))
