use Rattle.std.proofs.Common.{ℕ, ◌≤◌, subst, sym}
use Rattle.font_theory.specs.Content.{glyph_count}
use Rattle.font_write.specs.Parts.{IsNextKept}
use Rattle.font_subset.specs.KeptGlyphs.{written_content}
use Rattle.font_subset.proofs.KindSourceLemmas.{in_count, in_next}
use Rattle.font_subset.proofs.SourceLemmas.{Held}
use Rattle.font_subset.proofs.kind_source.CutOfKindSource.next_kept.Goals as goal

pub next_kept-requires : goal.next_kept-requires
next_kept-requires g c =
    subst (λ (n : ℕ). c.args.from ≤ n) (in_count c.self.inside.selection c.recall_accepted.ensures)
    (subst (λ (v : Held). c.args.from ≤ glyph_count (written_content v).copied) (sym c.self.view_is) c.requires)

pub returns : goal.returns
returns g c =
    subst (λ (v : Held). IsNextKept (written_content v) c.args.from c.next_kept.result) c.self.view_is
    (in_next c.self.inside.selection c.recall_accepted.ensures c.args.from c.next_kept.result c.next_kept.ensures)
