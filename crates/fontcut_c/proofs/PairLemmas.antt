-- Why two files are not compared, and what is answered of two that are.
use Rattle.std.proofs.Common.{◌≡◌, ◌↔◌, ℕ, Bool, IsTrue, List, None, subst}
use Rattle.font_theory.specs.Kinds.{fault_of}
use Rattle.font_theory.specs.declared.kinds.Kind.{Kind}
use Rattle.font_subset.specs.CutOfKind.{IsCutIn}
use Rattle.fontcut_c.specs.Forms.{IsBelonging, RefusesPair}
use Rattle.fontcut_c.specs.Inside.{RefusesFonts}
use Rattle.fontcut_c.specs.declared.refusal.Refusal.{Refusal}
use Rattle.fontcut_c.specs.declared.refusal.Refusal.TheVariants.{BadRange, BadText, Font, Join, NoGlyph, NoMemory}
use Rattle.fontcut_c.specs.declared.refusal.Refusal.TheVariants.{Second, SmallRoom, TooLarge}
use Rattle.fontcut_c.proofs.CutLemmas.{refused_accepted, refused_for}

-- what refuses them as fonts refuses them for cuts of each kind
pub pair_refused : (kind : Kind) (cut font : List ℕ) (refusal : Refusal) → RefusesFonts cut font refusal
    → RefusesPair kind cut font refusal
pair_refused kind cut font (Font error) h = (refused_for kind cut error h, refused_accepted cut error h)
pair_refused kind cut font (Second error) h = (h.0, refused_for kind font error h.1, refused_accepted font error h.1)
pair_refused kind cut font NoMemory h = absurd h
pair_refused kind cut font (Join error) h = absurd h
pair_refused kind cut font (BadRange k) h = absurd h
pair_refused kind cut font (BadText index) h = absurd h
pair_refused kind cut font (NoGlyph index) h = absurd h
pair_refused kind cut font (TooLarge size) h = absurd h
pair_refused kind cut font (SmallRoom size) h = absurd h

-- what is answered of two that were opened for a kind is answered of the files
pub pair_answered : (kind : Kind) (cut font : List ℕ) (first second : Kind × List ℕ) (is : Bool) → first ≡ (kind, cut)
    → second ≡ (kind, font) → fault_of kind cut ≡ None → fault_of kind font ≡ None
    → (IsTrue is ↔ IsCutIn second.0 second.1 first.1) → IsBelonging kind cut font is
pair_answered kind cut font first second is cut_opened font_opened cut_accepted font_accepted told =
    record {
      cut_accepted = cut_accepted;
      font_accepted = font_accepted;
      exact = subst (λ (v : Kind × List ℕ). IsTrue is ↔ IsCutIn kind font v.1) cut_opened
          (subst (λ (v : Kind × List ℕ). IsTrue is ↔ IsCutIn v.0 v.1 first.1) font_opened told);
    }
