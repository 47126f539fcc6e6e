use Rattle.std.proofs.Common.{◌≡◌, ℕ, ◌+◌, List, [], ◌∷◌, ◌++◌, ap, ◌∙◌, arith, subst}
use Rattle.codes.specs.CharacterMap.{united}
use Rattle.codes.specs.Runs.{IsNext, IsPiece, NoRun, groups_from, spelled}
use Rattle.codes.specs.declared.runs.Run.{Run}
use Rattle.map_union.proofs.RunListLemmas.{groups_go_on}
use Rattle.map_union.proofs.RunListLemmas.{both_map, groups_all}
use Rattle.map_union.proofs.merging.runs_of_both.Goals as goal

pub push_apart-requires-clause-done : goal.push_apart-requires-clause-done
push_apart-requires-clause-done g c =
    let M : ℕ → ℕ = united (spelled c.args.a.now) (spelled c.args.b.now) in
    let piece : IsPiece M c.loop-ahead.from c.in-Some.piece =
    subst (IsNext M c.loop-ahead.from) c.in-Some.is c.loop-ahead.invariant.next in
    let run = c.run_of_both.ensures.run c.loop-ahead.from piece in
    let pushed : c.push.new.values.items ≡ c.loop-ahead.runs.items ++ c.run_of_both.result.0 ∷ [] =
    c.in_ok-push.ensures.pushed in
    ap (λ (runs : List Run). runs ++ groups_from M (c.run_of_both.result.0.last + 1)) pushed
    ∙ groups_go_on M c.loop-ahead.from c.loop-ahead.runs.items (groups_from M 0) c.run_of_both.result.0
    (both_map c.args.a.now c.args.b.now c.requires.first c.requires.second) c.loop-ahead.invariant.done run

pub loop-ahead-smaller : goal.loop-ahead-smaller
loop-ahead-smaller g c =
    let M : ℕ → ℕ = united (spelled c.args.a.now) (spelled c.args.b.now) in
    let piece : IsPiece M c.loop-ahead.from c.in-Some.piece =
    subst (IsNext M c.loop-ahead.from) c.in-Some.is c.loop-ahead.invariant.next in
    let run = c.run_of_both.ensures.run c.loop-ahead.from piece in
    omega (arith, run.piece.from_on, run.piece.order, c.in_ok-end.ensures.order.0, c.in_ok-end.ensures.order.1)

pub returns-clause-spelled : goal.returns-clause-spelled
returns-clause-spelled g c =
    let M : ℕ → ℕ = united (spelled c.args.a.now) (spelled c.args.b.now) in
    let none : NoRun M c.loop-ahead.from =
    subst (IsNext M c.loop-ahead.from) c.in_default.is c.loop-ahead.invariant.next in
    (groups_all M c.loop-ahead.from c.loop-ahead.runs.items (both_map c.args.a.now c.args.b.now c.requires.first
    c.requires.second) c.loop-ahead.invariant.done none).0

pub returns-clause-runs : goal.returns-clause-runs
returns-clause-runs g c =
    let M : ℕ → ℕ = united (spelled c.args.a.now) (spelled c.args.b.now) in
    let none : NoRun M c.loop-ahead.from =
    subst (IsNext M c.loop-ahead.from) c.in_default.is c.loop-ahead.invariant.next in
    (groups_all M c.loop-ahead.from c.loop-ahead.runs.items (both_map c.args.a.now c.args.b.now c.requires.first
    c.requires.second) c.loop-ahead.invariant.done none).1
