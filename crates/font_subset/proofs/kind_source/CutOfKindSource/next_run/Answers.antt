use Rattle.std.proofs.Common.{MatchOption, ℕ, sym, subst}
use Rattle.font_subset.specs.KeptGlyphs.{written_content}
use Rattle.codes.specs.Runs.{IsRun, NoRun}
use Rattle.font_subset.proofs.KindSourceLemmas.{in_map}
use Rattle.font_subset.proofs.SourceLemmas.{Held}
use Rattle.font_subset.proofs.kind_source.CutOfKindSource.next_run.Goals as goal

pub returns : goal.returns
returns g c =
    subst (λ (v : Held). MatchOption c.next_run.result (NoRun (written_content v).map c.args.from)
    (IsRun (written_content v).map c.args.from)) c.self.view_is
    (subst (λ (m : ℕ → ℕ). MatchOption c.next_run.result (NoRun m c.args.from) (IsRun m c.args.from))
    (sym (in_map c.self.inside.selection c.recall_accepted.ensures)) c.next_run.ensures)
