use Rattle.std.proofs.Common.{ℕ, ◌+◌, arith, subst}
use Rattle.codes.specs.CharacterMap.{united}
use Rattle.codes.specs.Runs.{IsNext, IsPiece, NoRun, spelled}
use Rattle.codes.proofs.RunLemmas.{piece_ends, piece_last, piece_on}
use Rattle.map_union.proofs.merging.run_of_both.Goals as goal

pub returns-then-next-run-clause-run : goal.returns-then-next-run-clause-run
returns-then-next-run-clause-run c =
    let M : ℕ → ℕ = united (spelled c.args.a.now) (spelled c.args.b.now) in
    let next : IsPiece M (c.loop-ahead.run.last + 1) c.in-Some.next =
    subst (IsNext M (c.loop-ahead.run.last + 1)) c.in-Some.is c.loop-ahead.invariant.next in
    λ from h. piece_ends M from _ _ (c.loop-ahead.invariant.piece from h) next
    (λ e f. absurd (omega (arith, e, c.if-next-run.true)))

pub returns-then-from-next-clause-run : goal.returns-then-from-next-clause-run
returns-then-from-next-clause-run c =
    let M : ℕ → ℕ = united (spelled c.args.a.now) (spelled c.args.b.now) in
    let next : IsPiece M (c.loop-ahead.run.last + 1) c.in-Some.next =
    subst (IsNext M (c.loop-ahead.run.last + 1)) c.in-Some.is c.loop-ahead.invariant.next in
    λ from h. piece_ends M from _ _ (c.loop-ahead.invariant.piece from h) next
    (λ e f. absurd (omega (arith, e, f, c.if-from-next.true, c.from.ensures, c.from-in-Some.ensures)))

pub loop-ahead-preserved : goal.loop-ahead-preserved
loop-ahead-preserved c =
    let M : ℕ → ℕ = united (spelled c.args.a.now) (spelled c.args.b.now) in
    let next : IsPiece M (c.loop-ahead.run.last + 1) c.in-Some.next =
    subst (IsNext M (c.loop-ahead.run.last + 1)) c.in-Some.is c.loop-ahead.invariant.next in
    record {
      order = omega (arith, next.order, next.from_on, c.loop-ahead.invariant.order);
      small = next.within;
      piece = λ from h. piece_on M from _ _ (c.loop-ahead.invariant.piece from h) next
          (omega (arith, c.if-next-run.false)) (omega (
            arith,
            c.if-next-run.false,
            c.if-from-next.false,
            c.from.ensures,
            c.from-in-Some.ensures,
          ));
      next = c.piece_of_both.ensures.piece;
      past = c.piece_of_both.ensures.past;
    }

pub returns-clause-run : goal.returns-clause-run
returns-clause-run c =
    let M : ℕ → ℕ = united (spelled c.args.a.now) (spelled c.args.b.now) in
    let none : NoRun M (c.loop-ahead.run.last + 1) =
    subst (IsNext M (c.loop-ahead.run.last + 1)) c.in_default.is c.loop-ahead.invariant.next in
    λ from h. piece_last M from _ (c.loop-ahead.invariant.piece from h) none
