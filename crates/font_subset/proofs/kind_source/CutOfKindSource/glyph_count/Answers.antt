use Rattle.std.proofs.Common.{◌≡◌, ◌∙◌, sym, subst}
use Rattle.font_subset.specs.KeptGlyphs.{written_content}
use Rattle.font_theory.specs.Content.{glyph_count}
use Rattle.font_subset.proofs.KindSourceLemmas.{in_count}
use Rattle.font_subset.proofs.SourceLemmas.{Held}
use Rattle.font_subset.proofs.kind_source.CutOfKindSource.glyph_count.Goals as goal

pub returns : goal.returns
returns g c =
    subst (λ (v : Held). c.glyph_count.result ≡ glyph_count (written_content v).copied) c.self.view_is
    (c.glyph_count.ensures ∙ sym (in_count c.self.inside.selection c.recall_accepted.ensures))
