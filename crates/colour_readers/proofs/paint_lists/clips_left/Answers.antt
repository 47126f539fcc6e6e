use Rattle.std.proofs.Common.{arith, ap, sym, ◌∙◌}
use Rattle.colour_tables.specs.PaintLists.{count_at}
use Rattle.colour_readers.specs.Rooms.{clips_left}
use Rattle.colour_readers.proofs.PaintListLemmas.{clips_end}
use Rattle.colour_readers.proofs.paint_lists.clips_left.Goals as goal

pub returns : goal.returns
returns c =
    let count = ap (λ m. count_at c.args.t.now m 1) c.u32_at.ensures in
    sym (c.loop-i.invariant.same
    ∙ ap (clips_left c.args.n c.args.t.now c.loop-i.left c.loop-i.from)
    (clips_end _ _ (omega (arith, c.loop-i-test.false, c.count_at-count.ensures, count))))
