use Rattle.std.proofs.Common.{◌∙◌, ℕ, List, Some, ap, sym}
use Rattle.font_theory.specs.Kinds.{font_of}
use Rattle.font_theory.specs.declared.kinds.Kind.{Kind}
use Rattle.font_subset.specs.KeptGlyphs.{glyphs_wanted}
use Rattle.font_subset.proofs.PresenceLemmas.{none_there}
use Rattle.font_subset.proofs.presence.glyphs_there.Goals as goal

pub returns-in-Full-clause-glyphs : goal.returns-in-Full-clause-glyphs
returns-in-Full-clause-glyphs g c = λ h.
    ap (λ (l : List ℕ). glyphs_wanted (Some l) h) c.new.ensures.items
    ∙ sym (ap (λ (k : Kind). (font_of k c.args.font.now.1).there h) (sym c.kind.ensures.kind ∙ c.in-Full.is)
    ∙ none_there c.args.font.now.1 h)
