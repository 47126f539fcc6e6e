use Rattle.std.proofs.Common.{ℕ, List, Option, None, MatchOption, ap, subst, ◌∙◌}
use Rattle.std.specs.Option.{IfSome}
use Rattle.codes.specs.Runs.{IsRun, NoRun}
use Rattle.codes.specs.declared.runs.Run.{Run}
use Rattle.font_subset.specs.KeptGlyphs.{wanted_map}
use Rattle.font_subset.specs.ListedRuns.{AreRunsOf}
use Rattle.font_subset.proofs.selection.Charted.next_run.Goals as goal

pub returns-in-Some : goal.returns-in-Some
returns-in-Some g c =
    let file : List ℕ = c.self.inside.font.now in
    let runs : AreRunsOf file c.in-Some.listed =
    subst (λ (o : Option (List Run)). IfSome o (AreRunsOf file)) c.in-Some.is c.self.invariant.1 in
    subst (λ (m : ℕ → ℕ). MatchOption c.next_run.result (NoRun m c.args.from) (IsRun m c.args.from))
    (runs.spelled_map ∙ ap (λ (f : List ℕ). wanted_map f None) c.self.view_is) c.next_run.ensures
