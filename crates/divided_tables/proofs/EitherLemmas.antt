-- Tables that are laid over others.
use Rattle.std.proofs.Common.{◌≡◌, ℕ, ◌<◌, ◌≤◌, ◌⊎◌, cond, List, [], get_or, length, Option, None}
use Rattle.std.proofs.Common.{Some, is_some, unwrap_or, inl, inr, refl, sym, ap, ◌∙◌, subst, arith}
use Rattle.std.specs.Int.Bits.{bit_or, or_self, or_zero_l, or_zero_r}
use Rattle.std.specs.Option.{option_map}
use Rattle.std.proofs.lemmas.Bool.{cases_lt}
use Rattle.std.proofs.lemmas.List.{get_or_past}
use Rattle.std.proofs.lemmas.List.FromFn.{fill_by_all}
use Rattle.font_theory.specs.Content.{Content, glyph_count}
use Rattle.font_theory.specs.Parted.{either_bytes, laid, metrics, nameless, pairs_of}
use Rattle.font_theory.specs.Parting.{Tables, context}
use Rattle.font_theory.proofs.HeldLemmas.{cases_option}
use Rattle.font_theory.proofs.KindJoinLemmas.{either_bytes-self, laid-either, length-either_bytes}
use Rattle.font_write.specs.declared.source.TheConstants.{MAX_TABLE}
use Rattle.divided_tables.specs.PartedTable.{IsUnionOf, made_or_laid}

-- a table is as long with another laid over it

pub either_short : (o p : Option (List ℕ)) (b : List ℕ) → p ≡ option_map (λ t. either_bytes t b) o
    → length (unwrap_or o []) ≤ MAX_TABLE → length (unwrap_or p []) ≤ MAX_TABLE
either_short None p b e h = subst (λ (q : Option (List ℕ)). length (unwrap_or q []) ≤ MAX_TABLE) (sym e) h
either_short (Some t) p b e h =
    subst (λ (q : Option (List ℕ)). length (unwrap_or q []) ≤ MAX_TABLE) (sym e)
    (subst (λ (n : ℕ). n ≤ MAX_TABLE) (sym (length-either_bytes t b)) h)

-- the bytes of a table below a place have those of another laid over them
abbrev pub either_byte : List ℕ → List ℕ → ℕ → ℕ
either_byte t b j = bit_or (get_or t j 0) (get_or b j 0)

pub record AreEither (t b now : List ℕ) (stop : ℕ) : Type 0 where
  pub count : length now ≡ length t
  pub done : (j : ℕ) → j < stop → get_or now j 0 ≡ either_byte t b j
  pub rest : (j : ℕ) → stop ≤ j → get_or now j 0 ≡ get_or t j 0

pub either_none : (t b : List ℕ) → AreEither t b t 0
either_none t b = record { count = refl; done = λ j low. absurd (omega (arith, low)); rest = λ j high. refl }

-- after the end of either table a byte is that of the first
pub either_all : (t b now : List ℕ) (stop : ℕ) → (length t ≤ stop) ⊎ (length b ≤ stop) → AreEither t b now stop
    → now ≡ either_bytes t b
unfolding either_bytes
either_all t b now stop past are =
    fill_by_all (either_byte t b) now (length t) 0 are.count (λ j low. elim (cases_lt j stop) [
      | inl below ↦ are.done j below
      | inr above ↦ are.rest j above ∙ elim past [
        | inl first ↦ absurd (omega (arith, low, first, above))
        | inr second ↦
            let none : get_or b j 0 ≡ 0 = get_or_past b j 0 (omega (arith, second, above)) in
            sym (ap (bit_or (get_or t j 0)) none ∙ or_zero_r (get_or t j 0))
      ]
    ])

-- the parts of glyphs in the union of two contents, byte by byte
module _ (C E : Content) (P Q : ℕ → List ℕ) (first_kept : (g : ℕ) → C.outline g ≡ None → P g ≡ [])
    (second_kept : (g : ℕ) → E.outline g ≡ None → Q g ≡ [])
    (same : (g : ℕ) (a b : List ℕ) → C.outline g ≡ Some a → E.outline g ≡ Some b → P g ≡ Q g) where
  pub each_byte : (g w : ℕ) → get_or (cond (is_some (C.outline g)) (P g) (Q g)) w 0 ≡ bit_or (get_or (P g) w 0)
      (get_or (Q g) w 0)
  each_byte g w =
      elim (cases_option (C.outline g)) [
        | inl none ↦
            ap (λ o. get_or (cond (is_some o) (P g) (Q g)) w 0) none
            ∙ sym (or_zero_l (get_or (Q g) w 0))
            ∙ ap (λ (x : List ℕ). bit_or (get_or x w 0) (get_or (Q g) w 0)) (sym (first_kept g none))
        | inr a ↦
            ap (λ o. get_or (cond (is_some o) (P g) (Q g)) w 0) a.1
            ∙ elim (cases_option (E.outline g)) [
              | inl none ↦ sym (or_zero_r (get_or (P g) w 0))
                  ∙ ap (λ (x : List ℕ). bit_or (get_or (P g) w 0) (get_or x w 0)) (sym (second_kept g none))
              | inr b ↦ sym (or_self (get_or (P g) w 0))
                  ∙ ap (λ (x : List ℕ). bit_or (get_or (P g) w 0) (get_or x w 0)) (same g a.0 b.0 a.1 b.1)
            ]
      ]

-- so a union has tables of metrics laid over one another, and names that are those of either
pub metrics_united : (header slot : ℕ) (C E : Content) → IsUnionOf (metrics header) slot C E None
unfolding metrics
metrics_united header slot C E = λ c P Q are fit.
    let R : ℕ → List ℕ = λ g. cond (is_some (C.outline g)) (P g) (Q g) in
    (λ i. made_or_laid None (are.first i) (unwrap_or (are.second i) []))
    ∙ go c P Q R (each_byte C E P Q are.first_kept are.second_kept are.same) (c slot)
  where
    go : (c : Tables) (P Q R : ℕ → List ℕ)
        → ((g w : ℕ) → get_or (R g) w 0 ≡ bit_or (get_or (P g) w 0) (get_or (Q g) w 0)) → (o : Option (List ℕ))
        → option_map (λ t. either_bytes t (unwrap_or (option_map (λ f. laid Q (pairs_of (context c) header f)
        (glyph_count (context c)) f) o) []))
        (option_map (λ f. laid P (pairs_of (context c) header f) (glyph_count (context c)) f) o)
        ≡ option_map (λ f. laid R (pairs_of (context c) header f) (glyph_count (context c)) f) o
    go c P Q R each None = refl
    go c P Q R each (Some f) =
        ap Some (sym (laid-either R P Q (pairs_of (context c) header f) (glyph_count (context c)) f each))

pub names_united : (slot : ℕ) (C E : Content) → IsUnionOf nameless slot C E None
unfolding nameless
names_united slot C E = λ c P Q are fit.
    (λ i. made_or_laid None (are.first i) (unwrap_or (are.second i) [])) ∙ go (c slot)
  where
    go : (o : Option (List ℕ)) → option_map (λ t. either_bytes t (unwrap_or (option_map (λ f. f) o) []))
        (option_map (λ f. f) o) ≡ option_map (λ f. f) o
    go None = refl
    go (Some f) = ap Some (either_bytes-self f)

-- a table that was made, or that another was laid over, is short
pub laid_short : (made own result : Option (List ℕ)) (b : List ℕ) → result ≡ made_or_laid made own b
    → length (unwrap_or made []) ≤ MAX_TABLE → length (unwrap_or own []) ≤ MAX_TABLE
    → length (unwrap_or result []) ≤ MAX_TABLE
laid_short (Some t) own result b e short other =
    subst (λ (q : Option (List ℕ)). length (unwrap_or q []) ≤ MAX_TABLE) (sym e) short
laid_short None own result b e short other = either_short own result b e other
