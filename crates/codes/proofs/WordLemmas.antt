-- Digits and words.
use Rattle.std.proofs.Common.{◌≡◌, ◌≢◌, ℕ, zero, suc, ◌+◌, ◌^◌, ◌<◌, eqb, true, false, List, [], ◌∷◌}
use Rattle.std.proofs.Common.{◌++◌, length, take, drop, get_or, Option, Some, None, MatchOption, Bor, sym, ap, subst}
use Rattle.std.proofs.Common.{◌∙◌, refl, arith, inl, inr, lit<, ne_eqb, length-append}
use Rattle.std.specs.List.{list_all}
use Rattle.std.specs.Str.Parse.{digits_value, digits_value_after}
use Rattle.std.specs.List.{after_first, before_first, position_or_len}
use Rattle.std.proofs.lemmas.List.{take_at}
use Rattle.std.proofs.Math.ListN.{get_or-append}
use Rattle.std.proofs.Math.Seq.{drop-append-add}
use Rattle.std.proofs.lemmas.List.Sums.{AllPass-from_list_all, position_or_len_is}
use Rattle.std.proofs.lemmas.Str.Pattern.{IsSplitOnceResult, split_after, split_parts}
use Rattle.codes.specs.Word.{IsWord, OneRangeOfWord, SpellsCode, WritesCodes, is_hexadecimal}

-- the digits before a place are read
pub record Reads (digits : List ℕ) (i code : ℕ) : Type 0 where
  pub value : digits_value_after 16 code (drop i digits) ≡ digits_value 16 digits
  pub all : list_all is_hexadecimal (drop i digits) ≡ list_all is_hexadecimal digits
  pub small : code < 16 ^ i

pub few_small : (i code : ℕ) → i < 6 → code < 16 ^ i → code < 16 ^ 5
few_small zero code l h = omega (arith, h)
few_small (suc zero) code l h = omega (arith, h)
few_small (suc (suc zero)) code l h = omega (arith, h)
few_small (suc (suc (suc zero))) code l h = omega (arith, h)
few_small (suc (suc (suc (suc zero)))) code l h = omega (arith, h)
few_small (suc (suc (suc (suc (suc zero))))) code l h = omega (arith, h)
few_small (suc (suc (suc (suc (suc (suc i)))))) code l h = absurd (omega (arith, l))

-- no hexadecimal digit is a `-`
no_dash : (ds : List ℕ) (n : ℕ) → SpellsCode ds n → (i : ℕ) → i < length ds → get_or ds i 0 ≢ 45
no_dash ds n w i l e =
    let yes : is_hexadecimal (get_or ds i 0) ≡ true = AllPass-from_list_all is_hexadecimal ds w.hexadecimal i 0 l in
    let all : false ≡ true = ap is_hexadecimal (sym e) ∙ yes in
    cc

dash_at : (xs ys : List ℕ) → get_or (xs ++ 45 ∷ ys) (length xs) 0 ≡ 45
dash_at [] ys = refl
dash_at (x ∷ xs) ys = dash_at xs ys

dash_in : (ds front back : List ℕ) (n : ℕ) → ds ≡ front ++ 45 ∷ back → SpellsCode ds n → ⊥
dash_in ds front back n e w =
    no_dash ds n w (length front) (omega (arith, ap length e, length-append front (45 ∷ back)))
    (ap (λ (t : List ℕ). get_or t (length front) 0) e ∙ dash_at front back)

-- text that is split at a `-` writes its codes by its parts
abbrev OfParts : Option (Bor (List ℕ) × Bor (List ℕ)) → List ℕ → ℕ → ℕ → Type 0
OfParts parts text first last =
    MatchOption parts (SpellsCode text first × (first ≡ last)) (λ p. SpellsCode p.0.now first × SpellsCode p.1.now last)

pub split_codes : (text : List ℕ) (parts : Option (Bor (List ℕ) × Bor (List ℕ))) (first last : ℕ)
    → IsSplitOnceResult 45 text parts → WritesCodes text first last → OfParts parts text first last
split_codes text None first last split (inl one) = one
split_codes text None first last split (inr two) =
    absurd (split_after 45 text two.front two.back None split (lit< tt) two.parts
    (no_dash two.front first two.first_is))
split_codes text (Some p) first last split (inl one) =
    absurd (dash_in text p.0.now p.1.now first (split_parts 45 text (Some p) split (lit< tt)).0 one.0)
split_codes text (Some p) first last split (inr two) =
    let k = split_after 45 text two.front two.back (Some p) split (lit< tt) two.parts
    (no_dash two.front first two.first_is) in (
      subst (λ (t : List ℕ). SpellsCode t first) (sym k.0) two.first_is,
      subst (λ (t : List ℕ). SpellsCode t last)
          (sym k.1) two.last_is,
    )

-- after `U+` stands one text
behind_same : (xs ys : List ℕ) → 85 ∷ 43 ∷ xs ≡ 85 ∷ 43 ∷ ys → xs ≡ ys
behind_same xs ys e = ap (drop 2) e

not_all : (text behind : List ℕ) → text ≡ 97 ∷ 108 ∷ 108 ∷ [] → text ≡ 85 ∷ 43 ∷ behind → ⊥
not_all text behind a u = let e : 97 ≡ 85 = ap (λ (t : List ℕ). get_or t 0 0) (sym a ∙ u) in omega (arith, e)

-- a word that is not `all` writes its codes after `U+`
pub word_behind : (text behind : List ℕ) (first last : ℕ) → text ≡ 85 ∷ 43 ∷ behind → IsWord text first last
    → WritesCodes behind first last
word_behind text behind first last u (inl all) = absurd (not_all text behind all.0 u)
word_behind text behind first last u (inr word) =
    subst (λ (t : List ℕ). WritesCodes t first last) (behind_same word.behind behind (sym word.begins ∙ u))
    word.codes_are

-- a word has one range
digits_same : (ds : List ℕ) (m n : ℕ) → SpellsCode ds m → SpellsCode ds n → m ≡ n
digits_same ds m n a b = sym a.value ∙ b.value

front_is : (text front back : List ℕ) (n : ℕ) → text ≡ front ++ 45 ∷ back → SpellsCode front n
    → (front ≡ before_first (λ b. eqb b 45) text) × (back ≡ after_first (λ b. eqb b 45) text)
front_is text front back n e w =
    let none : (k : ℕ) → k < length front → eqb (get_or front k 0) 45 ≡ false =
    λ k l. ne_eqb (get_or front k 0) 45 (no_dash front n w k l) in
    let front_all : (k : ℕ) → k < length front → eqb (get_or text k 0) 45 ≡ false =
    λ k l. ap (λ (t : List ℕ). eqb (get_or t k 0) 45) e
    ∙ (ap (λ (x : ℕ). eqb x 45) (get_or-append front (45 ∷ back) 0 k l) ∙ none k l) in
    let at : position_or_len (λ b. eqb b 45) text ≡ length front =
    position_or_len_is (λ b. eqb b 45) text (length front) 0
    (omega (arith, ap length e, length-append front (45 ∷ back))) front_all
    (λ l. ap (λ (t : List ℕ). eqb (get_or t (length front) 0) 45) e
    ∙ ap (λ (x : ℕ). eqb x 45) (dash_at front back)) in (
      sym (ap (λ (k : ℕ). take k text) at ∙ (ap (take (length front)) e
          ∙ take_at front (45 ∷ back) (length front) refl)),
      sym (ap (λ (k : ℕ). drop (k + 1) text) at ∙ (ap (drop (length front + 1)) e
          ∙ drop-append-add front (45 ∷ back) 1)),
    )

codes_same : (text : List ℕ) (a b c d : ℕ) → WritesCodes text a b → WritesCodes text c d → (a ≡ c) × (b ≡ d)
codes_same text a b c d (inl one) (inl other) = let e = digits_same text a c one.0 other.0 in
    (e, sym one.1 ∙ e ∙ other.1)
codes_same text a b c d (inl one) (inr two) = absurd (dash_in text two.front two.back a two.parts one.0)
codes_same text a b c d (inr two) (inl one) = absurd (dash_in text two.front two.back c two.parts one.0)
codes_same text a b c d (inr two) (inr other) =
    let here = front_is text two.front two.back a two.parts two.first_is in
    let there = front_is text other.front other.back c other.parts other.first_is in
    let front : two.front ≡ other.front = here.0 ∙ sym there.0 in
    let back : two.back ≡ other.back = here.1 ∙ sym there.1 in (
      digits_same other.front a c (subst (λ (t : List ℕ). SpellsCode t a) front two.first_is) other.first_is,
      digits_same other.back b d (subst (λ (t : List ℕ). SpellsCode t b) back two.last_is) other.last_is,
    )

pub one_range : OneRangeOfWord
one_range text a b c d (inl all) (inl other) = (all.1 ∙ sym other.1, all.2 ∙ sym other.2)
one_range text a b c d (inl all) (inr word) = absurd (not_all text word.behind all.0 word.begins)
one_range text a b c d (inr word) (inl all) = absurd (not_all text word.behind all.0 word.begins)
one_range text a b c d (inr word) (inr other) =
    let same : word.behind ≡ other.behind = behind_same word.behind other.behind (sym word.begins ∙ other.begins) in
    codes_same other.behind a b c d (subst (λ (t : List ℕ). WritesCodes t a b) same word.codes_are) other.codes_are
