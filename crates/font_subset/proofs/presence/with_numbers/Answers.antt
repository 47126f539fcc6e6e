use Rattle.std.proofs.Common.{◌≡◌, ◌∙◌, ◌&&◌, ℕ, Bool, ap, false, option_copied, refl, sym, true}
use Rattle.font_theory.specs.Kinds.{font_of}
use Rattle.font_theory.specs.declared.kinds.Kind.{Kind}
use Rattle.font_subset.specs.KeptGlyphs.{glyphs_wanted}
use Rattle.font_subset.proofs.PresenceLemmas.{none_there, numbered_none}
use Rattle.font_subset.proofs.presence.with_numbers.Goals as goal

pub returns-in-Full : goal.returns-in-Full
returns-in-Full g c =
    let gone : (h : ℕ) → (font_of c.args.font.now.0 c.args.font.now.1).there h ≡ false = λ h.
    ap (λ (k : Kind). (font_of k c.args.font.now.1).there h) (sym c.kind.ensures.kind ∙ c.in-Full.is)
    ∙ none_there c.args.font.now.1 h in
    numbered_none (font_of c.args.font.now.0 c.args.font.now.1).there _ c.args.marks
    (λ h. ap (λ t. glyphs_wanted (option_copied c.args.numbers) h && t) (gone h)
    ∙ nothing (glyphs_wanted (option_copied c.args.numbers) h))
  where
    nothing : (b : Bool) → (b && false) ≡ false
    nothing true = refl
    nothing false = refl
