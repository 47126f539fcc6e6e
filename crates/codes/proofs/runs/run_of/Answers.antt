use Rattle.std.proofs.Common.{arith}
use Rattle.codes.proofs.RunLemmas.{piece_ends, piece_on}
use Rattle.codes.proofs.runs.run_of.Goals as goal

pub returns-then-next-run-clause-run : goal.returns-then-next-run-clause-run
returns-then-next-run-clause-run g c = λ from h. piece_ends _ from _ _ (c.loop-next.invariant.piece from h)
    c.in-Some.ensures (λ e f. absurd (omega (arith, e)))

pub returns-then-from-next-clause-run : goal.returns-then-from-next-clause-run
returns-then-from-next-clause-run g c = λ from h. piece_ends _ from _ _ (c.loop-next.invariant.piece from h)
    c.in-Some.ensures (λ e f. absurd (omega (arith, e, f)))

pub loop-next-preserved : goal.loop-next-preserved
loop-next-preserved g c =
    record {
      order = omega (arith, c.in-Some.ensures.order, c.in-Some.ensures.from_on, c.loop-next.invariant.order);
      small = c.in-Some.ensures.within;
      piece = λ from h. piece_on _ from _ _ (c.loop-next.invariant.piece from h) c.in-Some.ensures (omega arith)
          (omega arith);
    }
