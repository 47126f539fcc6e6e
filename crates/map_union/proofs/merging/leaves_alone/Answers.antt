use Rattle.std.proofs.Common.{arith}
use Rattle.map_union.proofs.RunListLemmas.{end_leaves_alone, next_leaves_alone}
use Rattle.map_union.proofs.merging.leaves_alone.Goals.{else-next-run-2-via-then-next-run-2+else-from-goes_on}
use Rattle.map_union.proofs.merging.leaves_alone.Goals.{else-next-run-2-via-else-next-run-2}
use Rattle.map_union.proofs.merging.leaves_alone.Goals as goal

pub returns-then-place-runs : goal.returns-then-place-runs
returns-then-place-runs c = λ from past on is.
    end_leaves_alone c.args.runs.now from c.args.place c.args.run c.requires.runs past c.if-place-runs.true
    (omega (arith, on, c.requires.order)) c.requires.order c.requires.some

pub returns : goal.returns
returns c = λ from past on is.
    next_leaves_alone c.args.runs.now from c.args.place c.args.run c.requires.runs past
    (omega (arith, c.if-place-runs.false)) (omega (arith, c.if-next-run.false))
    (omega (arith, on, c.requires.order)) c.requires.order c.requires.some
    (λ e q. elim c.else-next-run-2.branch [
      | else-next-run-2-via-then-next-run-2+else-from-goes_on w ↦
          w.if-from-goes_on.false (omega (arith, q, w.from-then-next-run-2.ensures, c.from.ensures))
      | else-next-run-2-via-else-next-run-2 w ↦ w.if-next-run-2.false e
    ])
