use Rattle.std.proofs.Common.{true, ◌≡◌, ℕ, ◌+◌, List, [], ◌∷◌, ◌++◌, ap, ◌∙◌, subst, sym}
use Rattle.codes.specs.CharacterMap.{IsCharacterMap, restricted}
use Rattle.font_map.specs.Mapping.{mapping_of}
use Rattle.codes.specs.Runs.{IsNext, IsPiece, IsRun, NoRun, groups_from}
use Rattle.codes.specs.declared.runs.Run.{Run}
use Rattle.font_file.specs.Font.{map_of}
use Rattle.map_union.proofs.RunListLemmas.{groups_go_on}
use Rattle.map_union.proofs.RunListLemmas.{groups_all}
use Rattle.font_subset.proofs.selection.Charted.runs.Goals as goal

pub loop-ahead-preserved : goal.loop-ahead-preserved
loop-ahead-preserved g c =
    let M : ℕ → ℕ = restricted (λ _. true) (map_of c.args.self.now) in
    let same : mapping_of c.self.inside.chart.0 c.self.inside.chart.1 ≡ M =
    ap (λ (v : List ℕ × ℕ). mapping_of v.0 v.1) c.self.invariant.0 ∙ ap map_of c.self.view_is in
    let map : IsCharacterMap M = c.known_map.ensures in
    let piece : IsPiece M c.loop-ahead.from c.in-Some.piece =
    subst (IsNext M c.loop-ahead.from) c.in-Some.is c.loop-ahead.invariant.next in
    let found = c.run_of-behind.ensures.run c.loop-ahead.from
    (subst (λ (m : ℕ → ℕ). IsPiece m c.loop-ahead.from c.in-Some.piece) (sym same) piece) in
    let run : IsRun M c.loop-ahead.from c.run_of-behind.result.0 =
    subst (λ (m : ℕ → ℕ). IsRun m c.loop-ahead.from c.run_of-behind.result.0) same found in
    let pushed : c.push.new.values.items ≡ c.loop-ahead.runs.items ++ c.run_of-behind.result.0 ∷ [] =
    c.in_ok-push.ensures.pushed in
    record {
      done = ap (λ (runs : List Run). runs ++ groups_from M (c.run_of-behind.result.0.last + 1)) pushed
          ∙ groups_go_on M c.loop-ahead.from c.loop-ahead.runs.items (groups_from M 0) c.run_of-behind.result.0 map
          c.loop-ahead.invariant.done run;
      next = subst (λ (m : ℕ → ℕ). IsNext m (c.run_of-behind.result.0.last + 1) c.run_of-behind.result.1) same
          c.run_of-behind.ensures.behind;
    }

pub returns-clause-runs : goal.returns-clause-runs
returns-clause-runs g c =
    let M : ℕ → ℕ = restricted (λ _. true) (map_of c.args.self.now) in
    let none : NoRun M c.loop-ahead.from =
    subst (IsNext M c.loop-ahead.from) c.in_default.is c.loop-ahead.invariant.next in
    let all = groups_all M c.loop-ahead.from c.loop-ahead.runs.items c.known_map.ensures c.loop-ahead.invariant.done
    none in
    record { spelled_map = all.0; of_map = all.1 }
