use Rattle.std.proofs.Common.{◌≡◌, ℕ, ◌+◌, ◌-◌, arith, subst}
use Rattle.map_union.specs.Inside.{IsPast}
use Rattle.map_union.proofs.RunListLemmas.{past_middle}
use Rattle.map_union.proofs.run_list.place_by_guess.Goals as goal

pub place_from-requires-then-runs-guess-2-clause-past : goal.place_from-requires-then-runs-guess-2-clause-past
place_from-requires-then-runs-guess-2-clause-past c =
    let behind : c.args.guess - 1 + 1 ≡ c.args.guess = omega (arith, c.if-guess-low.false) in
    subst (λ (place : ℕ). IsPast c.args.runs.now c.args.from place) behind
    (past_middle _ _ _ c.requires.runs (omega (arith, c.if-guess-low.false, c.if-runs-guess.false))
    c.if-runs-guess-2.true)

pub place_between-requires-clause-between : goal.place_between-requires-clause-between
place_between-requires-clause-between c = record {
  past = c.requires.past;
  order = omega (arith, c.if-guess-low.false);
  within = omega (arith, c.if-runs-guess.false);
  there = λ lt. omega (arith, c.if-runs-guess-2.false);
}
