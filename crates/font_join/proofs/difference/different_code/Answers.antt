use Rattle.std.proofs.Common.{ℕ, min, refl, arith, subst, sym}
use Rattle.codes.specs.Runs.{IsPiece, NoRun}
use Rattle.font_join.proofs.CodeDifferenceLemmas.{at_run, end_left, end_right, run_along, run_apart, run_found}
use Rattle.font_join.proofs.difference.different_code.Goals as goal

pub returns-in_default-piece : goal.returns-in_default-piece
returns-in_default-piece g c = λ K e.
    let there = at_run K (g.L.Source.content_of c.args.l.now) c.loop-b.from c.in-Some.b c.in-Some.ensures
    (c.loop-b.invariant.1 K e) in
    end_left K (g.L.Source.content_of c.args.l.now) c.in-Some.b.first (subst (λ (m : ℕ → ℕ). NoRun m c.in-Some.b.first)
    (sym e) c.in_default-piece.ensures) there.0

pub loop-b-preserved-then-b-a : goal.loop-b-preserved-then-b-a
loop-b-preserved-then-b-a g c = (
  omega (arith, c.in-Some-piece.ensures.order, c.in-Some-piece.ensures.within),
  λ K e.
      let there = at_run K (g.L.Source.content_of c.args.l.now) c.loop-b.from c.in-Some.b c.in-Some.ensures
      (c.loop-b.invariant.1 K e) in
      let piece : IsPiece K.map c.in-Some.b.first c.in-Some-piece.a =
      subst (λ (m : ℕ → ℕ). IsPiece m c.in-Some.b.first c.in-Some-piece.a) (sym e) c.in-Some-piece.ensures in
      (run_apart K (g.L.Source.content_of c.args.l.now) c.in-Some.b.first c.in-Some-piece.a c.in-Some.b
      piece there.1 c.in-Some-piece.a.first (min c.in-Some-piece.a.last c.in-Some.b.last) (omega (arith, piece.from_on))
      refl there.0).1,
)

pub returns-then-from-a : goal.returns-then-from-a
returns-then-from-a g c = λ K e.
    let there = at_run K (g.L.Source.content_of c.args.l.now) c.loop-b.from c.in-Some.b c.in-Some.ensures
    (c.loop-b.invariant.1 K e) in
    let piece : IsPiece K.map c.in-Some.b.first c.in-Some-piece.a =
    subst (λ (m : ℕ → ℕ). IsPiece m c.in-Some.b.first c.in-Some-piece.a) (sym e) c.in-Some-piece.ensures in
    run_found K (g.L.Source.content_of c.args.l.now) c.in-Some.b.first c.in-Some-piece.a c.in-Some.b
    piece there.1 c.in-Some-piece.a.first (min c.in-Some-piece.a.last c.in-Some.b.last) (omega (arith, piece.from_on))
    refl
    (omega (arith, piece.order, c.if-b-a.false))
    (λ q. c.if-from-a.true (omega (arith, q, c.from.ensures, c.from-else-b-a.ensures))) there.0

pub loop-b-preserved : goal.loop-b-preserved
loop-b-preserved g c = (
  omega (arith, c.min-from.ensures, c.in-Some-piece.ensures.within),
  λ K e.
      let there = at_run K (g.L.Source.content_of c.args.l.now) c.loop-b.from c.in-Some.b c.in-Some.ensures
      (c.loop-b.invariant.1 K e) in
      let piece : IsPiece K.map c.in-Some.b.first c.in-Some-piece.a =
      subst (λ (m : ℕ → ℕ). IsPiece m c.in-Some.b.first c.in-Some-piece.a) (sym e) c.in-Some-piece.ensures in
      (run_along K (g.L.Source.content_of c.args.l.now) c.in-Some.b.first c.in-Some-piece.a c.in-Some.b
      piece there.1 c.in-Some-piece.a.first c.min-from.result (omega (arith, piece.from_on)) c.min-from.ensures
      (omega (arith, piece.order, c.if-b-a.false, c.min-from.ensures)) (omega (
        arith,
        c.if-from-a.false,
        c.from.ensures,
        c.from-else-b-a.ensures,
      )) there.0).1,
)

pub returns : goal.returns
returns g c = λ K e. end_right K (g.L.Source.content_of c.args.l.now) c.loop-b.from c.in_default.ensures
    (c.loop-b.invariant.1 K e)
