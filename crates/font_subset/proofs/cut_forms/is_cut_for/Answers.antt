use Rattle.std.proofs.Common.{◌≡◌, ◌↔◌, ℕ, IsTrue, List, Some, ap, subst, sym, ◌∙◌}
use Rattle.font_theory.specs.Content.{Wanted, content}
use Rattle.font_theory.specs.Cut.{Format, Writes}
use Rattle.font_theory.specs.Kinds.{format_of, spelled_by}
use Rattle.font_theory.specs.declared.kinds.Kind.{Kind}
use Rattle.font_subset.specs.KeptGlyphs.{asked, wanted_in, written_content}
use Rattle.font_subset.proofs.KindSourceLemmas.{written_spelled}
use Rattle.font_subset.proofs.cut_forms.is_cut_for.Goals as goal

pub returns-clause-written : goal.returns-clause-written
returns-clause-written g c =
    let kind : Kind = c.args.font.now.0 in
    let R : Format = format_of kind in
    let font : List ℕ = c.args.font.now.1 in
    let W : Wanted = wanted_in (asked (Some c.args.codes.now) (Some c.args.glyphs.now)) in
    let spells : written_content c.in_ok-source.source ≡ spelled_by kind (content (R.font font) W) =
    ap written_content c.in_ok-source.ensures.source
    ∙ written_spelled (kind, (font, asked (Some c.args.codes.now) (Some c.args.glyphs.now))) in
    let told = c.is_written.ensures _ (subst (λ (k : Kind). written_content c.in_ok-source.source
    ≡ spelled_by k (content (R.font font) W)) (sym c.kind.ensures.kind) spells) in
    subst (λ (k : Kind). IsTrue c.is_written.result ↔ Writes (format_of k) (content (R.font font) W) c.args.bytes.now)
    c.kind.ensures.kind told
