-- Contents that accepted files come to by cuts and joins.
use Rattle.std.proofs.Common.{◌≡◌, Bool, true, false, cond, refl, ◌&&◌, ap, ◌∙◌, List, [], None, ℕ, is_some, subst}
use Rattle.font_theory.specs.Content.{Content, IsClosedContent, IsFont, IsPlain, is_kept}
use Rattle.font_theory.specs.Cut.{Arises, Format}
use Rattle.font_theory.specs.Cut.Arises.{of_file, of_two}
use Rattle.font_theory.proofs.ContentLemmas.{IsClosed-content, nothing_either}
use Rattle.font_theory.proofs.JoinLemmas.{IsClosed-both}

-- they have no table of layout, where what is accepted has none
pub IsPlain-arises : (R : Format) → ((X : List ℕ) → R.fault X ≡ None → IsPlain (R.font X).copied) → (K : Content)
    → Arises R K → IsPlain K.copied
IsPlain-arises R plain K (of_file X A h e) = subst (λ (C : Content). IsPlain C.copied) e (plain X h)
IsPlain-arises R plain K (of_two L M l m agree fit e) =
    subst (λ (C : Content). IsPlain C.copied) e (IsPlain-arises R plain L l)

-- no table of it is divided
abbrev pub IsWhole : (ℕ → ℕ → List ℕ) → Type 0
IsWhole parts = (slot g : ℕ) → parts slot g ≡ []

pub IsWhole-arises : (R : Format) → ((X : List ℕ) → R.fault X ≡ None → IsWhole (R.font X).parts) → (K : Content)
    → Arises R K → IsWhole K.parts
IsWhole-arises R whole K (of_file X A h e) =
    subst (λ (C : Content). IsWhole C.parts) e
    (λ slot g. nothing_either (is_kept (R.font X) A g) ((R.font X).parts slot g) (whole X h slot g))
IsWhole-arises R whole K (of_two L M l m agree fit e) =
    subst (λ (C : Content). IsWhole C.parts) e
    (λ slot g. elim (is_some (L.outline g)) as (λ b. cond b (L.parts slot g) (M.parts slot g) ≡ []) [
      | true ↦ IsWhole-arises R whole L l slot g
      | false ↦ IsWhole-arises R whole M m slot g
    ])

-- no glyph of it may be wanted by number
pub NoneThere-arises : (R : Format) → ((X : List ℕ) (g : ℕ) → R.fault X ≡ None → (R.font X).there g ≡ false)
    → (K : Content) → Arises R K → (g : ℕ) → K.there g ≡ false
NoneThere-arises R none K (of_file X A h e) g =
    subst (λ (C : Content). C.there g ≡ false) e
    (ap (λ b. is_kept (R.font X) A g && b) (none X g h) ∙ go (is_kept (R.font X) A g))
  where
    go : (b : Bool) → (b && false) ≡ false
    go true = refl
    go false = refl
NoneThere-arises R none K (of_two L M l m agree fit e) g =
    subst (λ (C : Content). C.there g ≡ false) e
    (elim (is_some (L.outline g)) as (λ b. cond b (L.there g) (M.there g) ≡ false) [
      | true ↦ NoneThere-arises R none L l g
      | false ↦ NoneThere-arises R none M m g
    ])

-- they are closed, where what is accepted is a font
pub IsClosed-arises : (R : Format) → ((X : List ℕ) → R.fault X ≡ None → IsFont (R.font X)) → (K : Content) → Arises R K
    → IsClosedContent K
IsClosed-arises R fonts K (of_file X A h e) = subst IsClosedContent e (IsClosed-content (R.font X) A (fonts X h))
IsClosed-arises R fonts K (of_two L M l m agree fit e) =
    subst IsClosedContent e (IsClosed-both L M (IsClosed-arises R fonts L l) (IsClosed-arises R fonts M m) agree)
