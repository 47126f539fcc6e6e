-- The next pair of a union.
use Rattle.std.proofs.Common.{◌≡◌, ℕ, suc, ◌+◌, ◌-◌, ◌<◌, ◌≤◌, Bool, true, false, cond, leb, ltb, not, List, []}
use Rattle.std.proofs.Common.{◌∷◌, drop, get_or, length, take, refl, ap, subst, sym, ◌∙◌, arith}
use Rattle.std.specs.List.{filter, prefix_len}
use Rattle.std.specs.List.Sorted.{IsNonDecreasingBy}
use Rattle.std.proofs.lemmas.Bool.{both_ways, cond-false, cond-true, leb-false, leb-true, le-ltb, lt-ltb}
use Rattle.std.proofs.lemmas.Bool.{le-leb, lt-leb, ne_eqb}
use Rattle.std.proofs.lemmas.Bool.Decides.{nat_tests}
use Rattle.std.proofs.lemmas.List.{length-drop, take_all}
use Rattle.std.proofs.lemmas.List.Sorted.{IsNonDecreasingBy-drop}
use Rattle.variation_sequences.specs.declared.variant.Pair.{Pair}
use Rattle.font_theory.specs.OrderedPairs.{place_of}
use Rattle.divided_tables.specs.SequenceIndex.{IsFirstOf, inserted, is_of, order_of, together, united_pairs}
use Rattle.divided_tables.proofs.SequenceAscentLemmas.{Ascends, ascends_by, ascends_filter, ascends_from}
use Rattle.divided_tables.proofs.SequenceUnionLemmas.{ascends_together}

abbrev IsAny : Pair → Type 0
IsAny p = Unit {0}

-- a pair in front of all
pub in_front : (p : Pair) (qs : List Pair) → Ascends IsAny order_of (order_of p) qs → inserted p qs ≡ p ∷ qs
in_front p [] s = refl
in_front p (q ∷ qs) s =
    cond-false (ltb (order_of q) (order_of p)) (q ∷ inserted p qs) (p ∷ q ∷ qs)
    (le-ltb (order_of q) (order_of p) s.1)

behind : (q : Pair) (ps qs : List Pair) → Ascends IsAny order_of (suc (order_of q)) ps
    → together ps (q ∷ qs) ≡ q ∷ together ps qs
behind q [] qs r = refl
behind q (p ∷ ps) qs r =
    let above : order_of q < order_of p = omega (arith, r.1) in
    ap (inserted p) (behind q ps qs (ascends_from IsAny order_of (suc (order_of q)) (order_of p) ps r.1 r.2))
    ∙ cond-true (ltb (order_of q) (order_of p)) (q ∷ inserted p (together ps qs)) (p ∷ q ∷ together ps qs)
    (lt-ltb (order_of q) (order_of p) above)

-- what is left after the elements that do not pass a test
abbrev BeginsWith : (Pair → Bool) → List Pair → List Pair → Type 0
BeginsWith test all l = (filter test l ≡ filter test all) × ((x : Pair) (xs : List Pair) → l ≡ x ∷ xs → test x ≡ true)

same_head : (x y : Pair) (xs ys : List Pair) → x ∷ xs ≡ y ∷ ys → x ≡ y
same_head x y xs ys e = ap (λ (l : List Pair). get_or l 0 x) e

passed : (test : Pair → Bool) (ps : List Pair)
    → BeginsWith test ps (drop (prefix_len (λ p. not (test p)) ps) ps)
passed test [] = (refl, λ x xs e. absurd (omega (arith, ap (λ (l : List Pair). length l) e)))
passed test (p ∷ ps) = by_test (test p) refl (passed test ps)
  where
    by_test : (b : Bool) → test p ≡ b → BeginsWith test ps (drop (prefix_len (λ q. not (test q)) ps) ps)
        → BeginsWith test (p ∷ ps) (drop (cond (not b) (1 + prefix_len (λ q. not (test q)) ps) 0) (p ∷ ps))
    by_test true t rest = (refl, λ x xs e. ap test (sym (same_head p x ps xs e)) ∙ t)
    by_test false f rest =
        let k = prefix_len (λ q. not (test q)) ps in
        let next : 1 + k ≡ suc k = omega arith in
        subst (λ (n : ℕ). BeginsWith test (p ∷ ps) (drop n (p ∷ ps))) (sym next)
        (rest.0 ∙ sym (cond-false (test p) (p ∷ filter test ps) (filter test ps) f), rest.1)

-- the bytes of a slice from a place to its end
abbrev pub cut : ℕ → List Pair → List Pair
cut i ps = take (length ps - i) (drop i ps)

cut_is : (i : ℕ) (ps : List Pair) → cut i ps ≡ drop i ps
cut_is i ps = take_all (length ps - i) (drop i ps) (omega (arith, length-drop i ps))

pub order_cut : (i : ℕ) (ps : List Pair) → IsNonDecreasingBy order_of ps → IsNonDecreasingBy order_of (cut i ps)
order_cut i ps o = subst (IsNonDecreasingBy order_of) (sym (cut_is i ps)) (IsNonDecreasingBy-drop order_of i ps o)

pub order_rest : (x : Pair) (xs l : List Pair) → l ≡ x ∷ xs → IsNonDecreasingBy order_of l
    → IsNonDecreasingBy order_of xs
order_rest x xs l e o =
    IsNonDecreasingBy-drop order_of 1 (x ∷ xs) (subst (IsNonDecreasingBy order_of) e o)

abbrev IsCount : (Pair → Bool) → List Pair → ℕ → Type 0
IsCount test ps i = i ≡ prefix_len (λ p. not (test p)) ps

begins : (test : Pair → Bool) (ps : List Pair) (i : ℕ) → IsCount test ps i → BeginsWith test ps (cut i ps)
begins test ps i e =
    subst (BeginsWith test ps) (sym (cut_is i ps)) (subst (λ (n : ℕ). BeginsWith test ps (drop n ps)) (sym e)
    (passed test ps))

module _ (c : ℕ → Bool) (ps qs : List Pair) (i j : ℕ) (one : IsCount (is_of c true) ps i)
    (other : IsCount (is_of c false) qs j) (first : IsNonDecreasingBy order_of ps)
    (second : IsNonDecreasingBy order_of qs) where
  abbrev F : List Pair
  F = cut i ps

  abbrev S : List Pair
  S = cut j qs

  united_is : (f s : List Pair) → f ≡ F → s ≡ S
      → united_pairs c ps qs ≡ together (filter (is_of c true) f) (filter (is_of c false) s)
  unfolding united_pairs
  united_is f s e h =
      let a = begins (is_of c true) ps i one in
      let b = begins (is_of c false) qs j other in
      λ k. together ((sym a.0 ∙ ap (filter (is_of c true)) (sym e)) k)
      ((sym b.0 ∙ ap (filter (is_of c false)) (sym h)) k)

  first_from : (x : Pair) (s : List Pair) → IsFirstOf (x ∷ []) s true → (d : Pair) → 0 < length s
      → order_of x ≤ order_of (get_or s 0 d)
  first_from x [] h d some = absurd (omega (arith, some))
  first_from x (y ∷ s) h d some = leb-true (order_of x) (order_of y) (sym h)

  first_of_more : (x : Pair) (xs s : List Pair) → IsFirstOf (x ∷ xs) s true → IsFirstOf (x ∷ []) s true
  first_of_more x xs [] h = h
  first_of_more x xs (y ∷ s) h = h

  pub next_first : (x : Pair) (xs : List Pair) → F ≡ x ∷ xs → IsFirstOf F S true
      → united_pairs c ps qs ≡ x ∷ united_pairs c xs S
  unfolding united_pairs
  next_first x xs e h =
      let a = begins (is_of c true) ps i one in
      let here : is_of c true x ≡ true = a.1 x xs e in
      let from = first_from x S (first_of_more x xs S (subst (λ (f : List Pair). IsFirstOf f S true) e h)) in
      let rest : Ascends IsAny order_of (order_of x) xs =
      (ascends_by order_of 0 (x ∷ xs) (λ d some. omega arith)
      (subst (IsNonDecreasingBy order_of) e (order_cut i ps first))).2 in
      let others : Ascends IsAny order_of (order_of x) S = ascends_by order_of (order_of x) S from
      (order_cut j qs second) in
      united_is (x ∷ xs) S (sym e) refl
      ∙ ap (λ (f : List Pair). together f (filter (is_of c false) S))
      (cond-true (is_of c true x) (x ∷ filter (is_of c true) xs) (filter (is_of c true) xs) here)
      ∙ in_front x (together (filter (is_of c true) xs) (filter (is_of c false) S))
      (ascends_together IsAny (order_of x) (filter (is_of c true) xs) (filter (is_of c false) S)
      (ascends_filter IsAny order_of (is_of c true) (order_of x) xs rest)
      (ascends_filter IsAny order_of (is_of c false) (order_of x) S others))

  second_from : (y : Pair) (ys f : List Pair) → IsFirstOf f (y ∷ ys) false → (d : Pair) → 0 < length f
      → suc (order_of y) ≤ order_of (get_or f 0 d)
  second_from y ys [] h d some = absurd (omega (arith, some))
  second_from y ys (x ∷ f) h d some =
      let less : order_of y < order_of x = leb-false (order_of x) (order_of y) (sym h) in omega (arith, less)

  pub next_second : (y : Pair) (ys : List Pair) → S ≡ y ∷ ys → IsFirstOf F S false
      → united_pairs c ps qs ≡ y ∷ united_pairs c F ys
  unfolding united_pairs
  next_second y ys e h =
      let b = begins (is_of c false) qs j other in
      let here : is_of c false y ≡ true = b.1 y ys e in
      let from = second_from y ys F (subst (λ (s : List Pair). IsFirstOf F s false) e h) in
      let above : Ascends IsAny order_of (suc (order_of y)) F =
      ascends_by order_of (suc (order_of y)) F from (order_cut i ps first) in
      united_is F (y ∷ ys) refl (sym e)
      ∙ ap (together (filter (is_of c true) F))
      (cond-true (is_of c false y) (y ∷ filter (is_of c false) ys) (filter (is_of c false) ys) here)
      ∙ behind y (filter (is_of c true) F) (filter (is_of c false) ys)
      (ascends_filter IsAny order_of (is_of c true) (suc (order_of y)) F above)

  pub next_none : length F ≡ 0 → IsFirstOf F S true → united_pairs c ps qs ≡ []
  next_none none h = none_of F S none h (united_is F S refl refl)
    where
      none_of : (f s : List Pair) → length f ≡ 0 → IsFirstOf f s true
          → united_pairs c ps qs ≡ together (filter (is_of c true) f) (filter (is_of c false) s)
          → united_pairs c ps qs ≡ []
      none_of [] [] e h is = is
      none_of [] (y ∷ s) e h is =
          absurd (both_ways true (h ∙ ne_eqb (suc (length s)) 0 (λ z. omega (arith, z))) refl)
      none_of (x ∷ f) s e h is = absurd (omega (arith, e))

-- the order by places, and by glyphs where these are the same
pub less_first : (p q : Pair) → p.glyph < 65536 → place_of p < place_of q → leb (order_of p) (order_of q) ≡ true
unfolding order_of
less_first p q low h = le-leb (order_of p) (order_of q) (omega (arith, low, h))

pub same_by_glyph : (p q : Pair) → place_of p ≡ place_of q
    → leb p.glyph q.glyph ≡ leb (order_of p) (order_of q)
unfolding order_of
same_by_glyph p q e = grind (arith, nat_tests, e)

pub more_last : (p q : Pair) → q.glyph < 65536 → place_of q < place_of p → leb (order_of p) (order_of q) ≡ false
unfolding order_of
more_last p q low h = lt-leb (order_of p) (order_of q) (omega (arith, low, h))
