use Rattle.std.proofs.Common.{◌≡◌, ℕ, ◌+◌, ◌-◌, arith, subst}
use Rattle.map_union.specs.Inside.{IsPast}
use Rattle.map_union.proofs.RunListLemmas.{past_middle}
use Rattle.map_union.proofs.run_list.place_near.Goals.{else-place-runs-via-then-place-runs+else-runs-place}
use Rattle.map_union.proofs.run_list.place_near.Goals.{else-place-runs-via-else-place-runs}
use Rattle.map_union.proofs.run_list.place_near.Goals as goal

pub place_by_guess-requires-clause-past : goal.place_by_guess-requires-clause-past
place_by_guess-requires-clause-past c = past_middle c.args.runs.now c.args.from c.args.hint.place c.requires
    c.if-place-runs.true c.if-runs-place.true

pub returns-then-runs-place-2 : goal.returns-then-runs-place-2
returns-then-runs-place-2 c =
    let behind : c.args.hint.place - 1 + 1 ≡ c.args.hint.place = omega (arith, c.if-place-gt0.true) in
    record {
      past = subst (λ (place : ℕ). IsPast c.args.runs.now c.args.from place) behind
          (past_middle _ _ _ c.requires (omega (arith, c.if-place-gt0.true, c.if-place-runs-2.true))
          c.if-runs-place-2.true);
      there = λ lt. elim c.else-place-runs.branch [
        | else-place-runs-via-then-place-runs+else-runs-place w ↦ omega (arith, w.if-runs-place.false)
        | else-place-runs-via-else-place-runs w ↦ absurd (omega (arith, lt, w.if-place-runs.false))
      ];
    }
