use Rattle.std.proofs.Common.{◌≡◌, ℕ, ◌<◌, Bool, List, Some, sym, ap, subst, ◌∙◌}
use Rattle.std.specs.Option.{is_some}
use Rattle.font_tables.specs.Fields.{glyph_count_of}
use Rattle.font_tables.specs.Outlines.{outline_of}
use Rattle.font_theory.specs.Content.{content, everything}
use Rattle.font_theory.specs.Kinds.{font_of}
use Rattle.font_subset.specs.KeptGlyphs.{Asked, IsKeptSet, all_asked, selected, wanted_in}
use Rattle.font_subset.proofs.ContentOfAllLemmas.{written_below, written_is}
use Rattle.font_subset.proofs.SourceLemmas.{Held}
use Rattle.font_subset.proofs.selection.Selection.written_outline.Goals as goal

-- the glyphs that a cut keeps, of a font and what is asked of it
abbrev Keeps : List Bool → Held → Type 0
Keeps kept v = IsKeptSet v.0 v.1.0 (wanted_in v.1.1) kept

-- the same where all is asked of it
kept_of_all : (v : Held) (kept : List Bool) → v.1.1 ≡ all_asked → Keeps kept v → IsKeptSet v.0 v.1.0 everything kept
kept_of_all v kept all = subst (λ (o : Asked). IsKeptSet v.0 v.1.0 (wanted_in o) kept) all

keeps_of_all : (v : Held) (g : ℕ) (keeps : Bool) → v.1.1 ≡ all_asked → keeps ≡ is_some ((selected v).outline g)
    → keeps ≡ is_some ((content (font_of v.0 v.1.0) everything).outline g)
keeps_of_all v g keeps all =
    subst (λ (o : Asked). keeps ≡ is_some ((content (font_of v.0 v.1.0) (wanted_in o)).outline g)) all

pub outline-requires : goal.outline-requires
outline-requires g c =
    let kept = kept_of_all c.args.self.now c.self.inside.kept c.requires.all
    (subst (Keeps c.self.inside.kept) c.self.view_is c.self.invariant.kept) in
    let is = keeps_of_all c.args.self.now c.args.g c.keeps.result c.requires.all c.keeps.ensures in
    subst (λ (b : List ℕ). c.args.g < glyph_count_of b) (sym (c.font.ensures.font
    ∙ ap (λ (v : Held). v.1.0) c.self.view_is))
    (written_below c.args.self.now.0 c.args.self.now.1.0 c.self.inside.kept kept c.args.g c.keeps.result is
    c.if-keeps.true)

pub returns-then-keeps-clause-outline : goal.returns-then-keeps-clause-outline
returns-then-keeps-clause-outline g c =
    let kept = kept_of_all c.args.self.now c.self.inside.kept c.requires.all
    (subst (Keeps c.self.inside.kept) c.self.view_is c.self.invariant.kept) in
    let is = keeps_of_all c.args.self.now c.args.g c.keeps.result c.requires.all c.keeps.ensures in
    written_is c.args.self.now.0 c.args.self.now.1.0 c.self.inside.kept kept c.requires.form c.args.g c.keeps.result is
    c.if-keeps.true
    ∙ ap (λ (b : List ℕ). Some b) (sym (c.outline.ensures.outline
    ∙ ap (λ (b : List ℕ). outline_of b c.args.g) (c.font.ensures.font ∙ ap (λ (v : Held). v.1.0) c.self.view_is)))
