-- What a closed content keeps.
use Rattle.std.proofs.Common.{◌≡◌, ℕ, ◌⊎◌, true, false, ◌&&◌, cond, inl, inr, List, [], refl, sym, ◌∙◌, ap, subst}
use Rattle.std.proofs.Common.{arith, unwrap_or}
use Rattle.std.proofs.Common.{Option, Some, None}
use Rattle.std.specs.Option.{IsSome}
use Rattle.std.proofs.lemmas.Bool.{cases_Bool}
use Rattle.sfnt_bytes.specs.Lines.{when}
use Rattle.font_glyph.specs.Reach.{IsComponentOf, Reach}
use Rattle.font_glyph.specs.Reach.Reach.{seed, part}
use Rattle.font_glyph.specs.RecordMap.{HoldsComponents}
use Rattle.font_theory.specs.Bytes.{padded}
use Rattle.font_theory.specs.Content.{KeepsComponents, Content, IsClosedContent, everything, is_kept, is_root}
use Rattle.font_theory.specs.Content.{read_back}
use Rattle.font_theory.proofs.PaddedLemmas.{IsRecord-nil}
use Rattle.font_theory.proofs.WantedLemmas.{component-below, is_kept-decides, is_root-seed, is_root-there, is_seed-code}
use Rattle.font_theory.proofs.WantedLemmas.{is_seed-zero}

-- an option, with what it is
pub cases_option : {A : Type 0} (o : Option A) → (o ≡ None) ⊎ ((a : A) × (o ≡ Some a))
cases_option None = inl refl
cases_option (Some a) = inr (a, refl)

-- what a content's own codes and glyphs reach in it
abbrev pub IsHeld : Content → ℕ → Type 0
IsHeld K g = Reach (read_back K).outline (is_root (read_back K) everything) g

-- an empty record names nothing
pub component-nil : (g : ℕ) → IsComponentOf [] g → ⊥
component-nil g h = let low = component-below 0 [] g (IsRecord-nil 0) h in absurd (omega (arith, low))

module _ (K : Content) (ok : IsClosedContent K) where
  pub outline_is : (g : ℕ) → when (is_kept (read_back K) everything g) (padded (unwrap_or (K.outline g) []))
      ≡ K.outline g
  outline_is g = ap (λ C. C.outline g) ok.closed

  pub held-some : (g : ℕ) → IsHeld K g → (b : List ℕ) × (K.outline g ≡ Some b)
  held-some g r =
      let e = (is_kept-decides (read_back K) everything ok.font g).1 r in (
        padded (unwrap_or (K.outline g) []),
        sym (outline_is g) ∙ ap (λ x. when x (padded (unwrap_or (K.outline g) [])))
            e,
      )

  pub some-held : (g : ℕ) (b : List ℕ) → K.outline g ≡ Some b → IsHeld K g
  some-held g b e =
      elim (cases_Bool (is_kept (read_back K) everything g)) [
        | inl t ↦ (is_kept-decides (read_back K) everything ok.font g).0 t
        | inr f ↦
            let n : None ≡ Some b = sym (ap (λ x. when x (padded (unwrap_or (K.outline g) []))) f) ∙ outline_is g ∙ e in
            cc
      ]

  pub some-padded : (g : ℕ) (b : List ℕ) → K.outline g ≡ Some b → padded b ≡ b
  some-padded g b e =
      let t = (is_kept-decides (read_back K) everything ok.font g).1 (some-held g b e) in
      let n : Some (padded b) ≡ Some b =
      sym (ap (λ o. Some (padded (unwrap_or o []))) e) ∙ sym (ap (λ x. when x (padded (unwrap_or (K.outline g) []))) t)
      ∙ outline_is g ∙ e in cc

  some-is : (g : ℕ) → IsHeld K g → IsSome (K.outline g)
  some-is g r = let w = held-some g r in rw (w.1) refl

  -- a glyph that is not kept has no parts
  pub parts-none : (g : ℕ) → K.outline g ≡ None → (slot : ℕ) → K.parts slot g ≡ []
  parts-none g none slot =
      elim (cases_Bool (is_kept (read_back K) everything g)) [
        | inl t ↦
            let w = held-some g ((is_kept-decides (read_back K) everything ok.font g).0 t) in
            let n : Some w.0 ≡ None = sym w.1 ∙ none in cc
        | inr f ↦
            sym (ap (λ (C : Content). C.parts slot g) ok.closed)
            ∙ ap (λ b. cond b (K.parts slot g) []) f
      ]

  -- so it is not there
  pub there-none : (g : ℕ) → K.outline g ≡ None → K.there g ≡ false
  there-none g none =
      elim (cases_Bool (is_kept (read_back K) everything g)) [
        | inl t ↦
            let w = held-some g ((is_kept-decides (read_back K) everything ok.font g).0 t) in
            let n : Some w.0 ≡ None = sym w.1 ∙ none in cc
        | inr f ↦ sym (ap (λ (C : Content). C.there g) ok.closed) ∙ ap (λ b. b && K.there g) f
      ]

  -- .notdef, the glyph of each code, and each component of what it keeps
  pub zero-kept : IsSome (K.outline 0)
  zero-kept = some-is 0 (seed (is_root-seed (read_back K) everything 0 (is_seed-zero K.map)))

  pub code-kept : (c : ℕ) → IsSome (K.outline (K.map c))
  code-kept c = some-is (K.map c)
      (seed (is_root-seed (read_back K) everything (K.map c) (is_seed-code K.map ok.font.mapped_codes c)))

  pub components-kept : HoldsComponents K.outline
  components-kept s g p = go (cases_option (K.outline s))
    where
      go : ((K.outline s ≡ None) ⊎ ((b : List ℕ) × (K.outline s ≡ Some b))) → IsSome (K.outline g)
      go (inl none) = absurd (component-nil g (subst (λ (b : List ℕ). IsComponentOf b g) (ap (λ o. unwrap_or o []) none)
          p))
      go (inr some) = some-is g (part (some-held s some.0 some.1) p)

module _ (K : Content) (ok : IsClosedContent K) where
  -- and each glyph that is there
  pub roots-kept : (g : ℕ) → K.there g ≡ true → IsSome (K.outline g)
  roots-kept g h = some-is K ok g (seed (is_root-there (read_back K) everything g refl h))

pub KeepsComponents-closed : (K : Content) → IsClosedContent K → KeepsComponents K
KeepsComponents-closed K ok =
    record { notdef = zero-kept K ok; mapped = code-kept K ok; components = components-kept K ok }
