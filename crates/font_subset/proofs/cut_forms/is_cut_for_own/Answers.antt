use Rattle.std.proofs.Common.{◌≡◌, ◌↔◌, ℕ, IsTrue, List, Some, ap, subst, ◌∙◌}
use Rattle.std.proofs.Math.Path.{fun_ext}
use Rattle.std.proofs.lemmas.Result.{MatchResult-weaker}
use Rattle.codes.specs.CharacterMap.{is_mapped}
use Rattle.codes.specs.Wanted.{member}
use Rattle.font_file.specs.Font.{map_of}
use Rattle.font_theory.specs.Content.{Wanted, content}
use Rattle.font_theory.specs.Cut.{Format, Writes}
use Rattle.font_theory.specs.Kinds.{font_of, format_of}
use Rattle.font_theory.specs.declared.kinds.Kind.{Kind}
use Rattle.font_subset.specs.CutOfKind.{own_of}
use Rattle.font_subset.specs.KeptGlyphs.{asked, glyphs_wanted, wanted_in}
use Rattle.font_subset.proofs.cut_forms.is_cut_for_own.Goals as goal

pub returns-clause-written : goal.returns-clause-written
returns-clause-written g c =
    let kind : Kind = c.args.font.now.0 in
    let R : Format = format_of kind in
    let font : List ℕ = c.args.font.now.1 in
    let held : Kind = c.args.cut.now.0 in
    let file : List ℕ = c.args.cut.now.1 in
    let codes : member c.in_ok-codes.codes ≡ is_mapped (map_of file) =
    c.in_ok-codes.ensures.codes ∙ ap (λ (f : List ℕ). is_mapped (map_of f)) c.font.ensures.font in
    let glyphs : glyphs_wanted (Some c.deref.result.now) ≡ (font_of held file).there = fun_ext (λ h.
    ap (λ (l : List ℕ). glyphs_wanted (Some l) h) c.deref.ensures.value ∙ c.in_ok-glyphs.ensures.glyphs h) in
    let same : wanted_in (asked (Some c.in_ok-codes.codes) (Some c.deref.result.now)) ≡ own_of held file =
    λ i. record { codes = codes i; glyphs = glyphs i } in
    let read : c.file_of.result.now ≡ file = c.file_of.ensures.file ∙ c.font-2.ensures.font in
    MatchResult-weaker c.is_cut_for.result c.is_cut_for.ensures.written
    (λ b told. subst (λ (f : List ℕ). IsTrue b ↔ Writes R (content (R.font font) (own_of held file)) f) read
    (subst (λ (W : Wanted). IsTrue b ↔ Writes R (content (R.font font) W) c.file_of.result.now) same told))
    (λ e h. tt)
