-- The keys of pairs.
use Rattle.std.proofs.Common.{◌≡◌, ℕ, zero, suc, ◌+◌, ◌-◌, ◌<◌, ◌≤◌, Bool, true, false, cond, eqb, leb, ltb, not}
use Rattle.std.proofs.Common.{◌&&◌, List, [], ◌∷◌, length, map, take, drop, refl, ap, subst, sym, ◌∙◌, arith, inl, inr}
use Rattle.std.proofs.Common.{get_or, nat_lt, nat_eq}
use Rattle.std.specs.Cmp.{both_ways as equal_tests}
use Rattle.std.specs.List.{filter, sum_by}
use Rattle.std.specs.List.Sorted.{IsPartitionPoint}
use Rattle.std.specs.Str.{bytes_eq}
use Rattle.std.proofs.lemmas.Bool.{both_ways, cases_Bool, cond-false, cond-true, cond_both, eqb-true}
use Rattle.std.proofs.lemmas.Bool.{lt-ltb, ne_eqb}
use Rattle.std.proofs.lemmas.Bool.Decides.{nat_tests}
use Rattle.std.proofs.lemmas.List.Sorted.{sum_by-IsPermutation}
use Rattle.std.proofs.lemmas.Slice.Eq.{bytes_eq-Decides}
use Rattle.variation_sequences.specs.Pairs.{part_of}
use Rattle.variation_sequences.specs.Written.{subtable_bytes}
use Rattle.variation_sequences.specs.declared.variant.Pair.{Pair}
use Rattle.font_theory.specs.OrderedPairs.{place_of}
use Rattle.font_theory.specs.SequenceTable.{MAX_PAIRS, sequence_table, sequences_in}
use Rattle.font_theory.proofs.OrderLemmas.{Rises}
use Rattle.font_theory.proofs.SequencePartLemmas.{part-among, part-few, part-filter}
use Rattle.font_theory.proofs.SequenceTableLemmas.{AreAmong, IsPairAmong, sequences_in-among, sequences_in-table}
use Rattle.divided_tables.specs.SequenceIndex.{AreIndexed, is_between, key_from, key_of, keys_between}
use Rattle.divided_tables.specs.OpenSequences.{OpenSequences}
use Rattle.divided_tables.proofs.SequenceAscentLemmas.{Ascends, HaveSame, ascends_filter, ascends_from, ascends_numbers}
use Rattle.divided_tables.proofs.SequenceAscentLemmas.{same_ascending, same_filter}

-- numbers between two places are those between two bounds
abbrev no_numbers : List ℕ
no_numbers = []

none_left : (m n : ℕ) → take m (drop n no_numbers) ≡ no_numbers
none_left zero zero = refl
none_left zero (suc n) = refl
none_left (suc m) zero = refl
none_left (suc m) (suc n) = refl

abbrev IsPoint : ℕ → List ℕ → ℕ → Type 0
IsPoint bound = IsPartitionPoint (λ k. nat_lt k bound ≡ true) (λ k. nat_lt k bound ≡ false)

passed : (bound x : ℕ) (xs : List ℕ) → IsPoint bound (x ∷ xs) 0 → IsPoint bound xs 0
passed bound x xs a =
    (λ k d l u. absurd (omega (arith, u)), λ k d l u. a.1 (suc k) d (omega arith) (omega (arith, u)))

further : (bound x : ℕ) (xs : List ℕ) (i : ℕ) → IsPoint bound (x ∷ xs) (suc i) → IsPoint bound xs i
further bound x xs i a = (
  λ k d l u. a.0 (suc k) d (omega arith) (omega (arith, u)),
  λ k d l u. a.1 (suc k) d (omega (arith, l)) (omega (arith, u)),
)

points : (low high : ℕ) (xs : List ℕ) (i j : ℕ) → low ≤ high → IsPoint low xs i → IsPoint high xs j
    → take (j - i) (drop i xs) ≡ filter (λ k. leb low k && ltb k high) xs
points low high [] i j h a b = none_left (j - i) i
points low high (x ∷ xs) zero zero h a b =
    let past : ltb x high ≡ false = b.1 0 x (omega arith) (omega arith) in
    let off : (leb low x && ltb x high) ≡ false = grind (arith, nat_tests, past) in
    points low high xs 0 0 h (passed low x xs a) (passed high x xs b)
    ∙ sym (cond-false (leb low x && ltb x high) (x ∷ filter (λ k. leb low k && ltb k high) xs) _ off)
points low high (x ∷ xs) zero (suc j) h a b =
    let from : ltb x low ≡ false = a.1 0 x (omega arith) (omega arith) in
    let below : ltb x high ≡ true = b.0 0 x (omega arith) (omega arith) in
    let on : (leb low x && ltb x high) ≡ true = grind (arith, nat_tests, from, below) in
    let rest = points low high xs 0 j h (passed low x xs a) (further high x xs j b) in
    let more : suc j - 0 ≡ suc (j - 0) = omega arith in
    ap (λ (n : ℕ). take n (x ∷ xs)) more ∙ ap (λ (ys : List ℕ). x ∷ ys) rest
    ∙ sym (cond-true (leb low x && ltb x high) (x ∷ filter (λ k. leb low k && ltb k high) xs) _ on)
points low high (x ∷ xs) (suc i) zero h a b =
    let below : ltb x low ≡ true = a.0 0 x (omega arith) (omega arith) in
    let past : ltb x high ≡ false = b.1 0 x (omega arith) (omega arith) in
    absurd (grind (arith, nat_tests, below, past, h))
points low high (x ∷ xs) (suc i) (suc j) h a b =
    let below : ltb x low ≡ true = a.0 0 x (omega arith) (omega arith) in
    let off : (leb low x && ltb x high) ≡ false = grind (arith, nat_tests, below) in
    let rest = points low high xs i j h (further low x xs i a) (further high x xs j b) in
    let same : suc j - suc i ≡ j - i = omega arith in
    ap (λ (n : ℕ). take n (drop i xs)) same ∙ rest
    ∙ sym (cond-false (leb low x && ltb x high) (x ∷ filter (λ k. leb low k && ltb k high) xs) _ off)

pub between_points : (from to : ℕ) (keys : List ℕ) → from ≤ to → (first end : ℕ) → first ≡ key_from from
    → end ≡ key_from to → (i j : ℕ) → IsPoint first keys i → IsPoint end keys j
    → take (j - i) (drop i keys) ≡ keys_between from to keys
between_points from to keys h first end e f i j a b =
    points first end keys i j (omega (arith, e, f, h)) a b
    ∙ (λ k. filter (λ x. leb (e k) x && ltb x (f k)) keys)

-- a pair has a key of its glyph, and with it a key of its own
pair_test : (n g : ℕ) (p : Pair) → IsPairAmong n p → is_between g (g + 1) (key_of p) ≡ eqb p.glyph g
unfolding key_of
pair_test n g p is = let v = is.selector in let c = is.code in grind (arith, nat_tests, v, c)

own_key : (m n : ℕ) (p q : Pair) → IsPairAmong m p → IsPairAmong n q → key_of p ≡ key_of q → p ≡ q
unfolding key_of
own_key m n p q a b e =
    let glyph : p.glyph ≡ q.glyph = omega (arith, e, a.selector, a.code, b.selector, b.code) in
    let selector : p.selector ≡ q.selector = omega (arith, e, glyph, a.code, b.code) in
    let code : p.code ≡ q.code = omega (arith, e, glyph, selector) in
    λ i. record { selector = selector i; code = code i; glyph = glyph i }

same_keys : (m n a b : ℕ) (ps qs : List Pair) → Rises (IsPairAmong m) place_of a ps
    → Rises (IsPairAmong n) place_of b qs → map key_of ps ≡ map key_of qs → ps ≡ qs
same_keys m n a b [] [] r s e = refl
same_keys m n a b [] (q ∷ qs) r s e = absurd (omega (arith, ap (λ (l : List ℕ). length l) e))
same_keys m n a b (p ∷ ps) [] r s e = absurd (omega (arith, ap (λ (l : List ℕ). length l) e))
same_keys m n a b (p ∷ ps) (q ∷ qs) r s e =
    let first : p ≡ q = own_key m n p q r.0 s.0 (ap (λ (l : List ℕ). get_or l 0 0) e) in
    let rest : ps ≡ qs = same_keys m n (suc (place_of p)) (suc (place_of q)) ps qs r.2 s.2
    (ap (λ (l : List ℕ). drop 1 l) e) in
    λ i. first i ∷ rest i

-- the keys of a glyph
of_glyph : (n g low : ℕ) (ps : List Pair) → Rises (IsPairAmong n) place_of low ps
    → filter (is_between g (g + 1)) (map key_of ps) ≡ map key_of (filter (λ p. eqb p.glyph g) ps)
of_glyph n g low [] r = refl
of_glyph n g low (p ∷ ps) r =
    (λ i. cond (pair_test n g p r.0 i) (key_of p ∷ of_glyph n g (suc (place_of p)) ps r.2 i)
    (of_glyph n g (suc (place_of p)) ps r.2 i))
    ∙ by_test (eqb p.glyph g)
  where
    by_test : (b : Bool) → cond b (key_of p ∷ map key_of (filter (λ q. eqb q.glyph g) ps))
        (map key_of (filter (λ q. eqb q.glyph g) ps))
        ≡ map key_of (cond b (p ∷ filter (λ q. eqb q.glyph g) ps) (filter (λ q. eqb q.glyph g) ps))
    by_test true = refl
    by_test false = refl

abbrev IsNumber : ℕ → Type 0
IsNumber k = Unit {0}

-- pairs of one glyph that rise have keys that do
glyph_rises : (n g low : ℕ) (ps : List Pair) → Rises (IsPairAmong n) place_of low ps
    → Ascends IsNumber (λ k. k) (key_from g + low) (map key_of (filter (λ p. eqb p.glyph g) ps))
unfolding key_of place_of
glyph_rises n g low [] r = tt
glyph_rises n g low (p ∷ ps) r =
    let rest = glyph_rises n g (suc (place_of p)) ps r.2 in
    let above : low ≤ place_of p = r.1 in
    let others : List Pair = filter (λ q. eqb q.glyph g) ps in
    cond_both (eqb p.glyph g) (p ∷ others) others
    (λ (qs : List Pair). Ascends IsNumber (λ k. k) (key_from g + low) (map key_of qs))
    (λ t. let own : p.glyph ≡ g = eqb-true p.glyph g t in (
      tt,
      omega (arith, own, above),
      ascends_from IsNumber (λ k. k) (key_of p) (key_from g + suc (place_of p))
          (map key_of others) (omega (arith, own)) rest,
    ))
    (λ f. ascends_from IsNumber (λ k. k) (key_from g + low) (key_from g + suc (place_of p)) (map key_of others)
    (omega (arith, above)) rest)

pub among : (o : OpenSequences) (keys : List ℕ) → AreIndexed o keys → AreAmong o.count o.pairs
among o keys is =
    subst (AreAmong o.count) (sym is.table.1) (sequences_in-among o.count is.table.0).0

pub keys_of_glyph : (o : OpenSequences) (keys : List ℕ) → AreIndexed o keys → (g : ℕ)
    → keys_between g (g + 1) keys ≡ map key_of (part_of o.pairs g)
keys_of_glyph o keys is g =
    let rises = among o keys is in
    let own : List Pair = filter (λ p. eqb p.glyph g) o.pairs in
    let all : HaveSame keys (map key_of o.pairs) =
    λ f. sum_by-IsPermutation f (map key_of o.pairs) keys is.index.same in
    let some = same_filter (is_between g (g + 1)) keys (map key_of o.pairs) all in
    same_ascending IsNumber (λ k. k) (λ x y a b e. e) 0 (key_from g + 0) (keys_between g (g + 1) keys)
    (map key_of own)
    (ascends_filter IsNumber (λ k. k) (is_between g (g + 1)) 0 keys
    (ascends_numbers 0 keys (λ d some. omega arith) is.index.order))
    (glyph_rises o.count g 0 o.pairs rises)
    (λ f. some f ∙ ap (λ (l : List ℕ). sum_by f l) (of_glyph o.count g 0 o.pairs rises))
    ∙ ap (map key_of) (sym (part-filter o.pairs g))

-- no key of many glyphs is none of each
none_of : (test more : ℕ → Bool) → ((k : ℕ) → more k ≡ true → test k ≡ true) → (xs : List ℕ)
    → filter test xs ≡ [] → filter more xs ≡ []
none_of test more h [] e = refl
none_of test more h (x ∷ xs) e = elim (cases_Bool (test x)) [
  | inl t ↦
      let some = sym (cond-true (test x) (x ∷ filter test xs) (filter test xs) t) ∙ e in
      absurd (omega (arith, ap (λ (l : List ℕ). length l) some))
  | inr f ↦
      let off : more x ≡ false = elim (cases_Bool (more x)) [
        | inl m ↦ absurd (both_ways true (sym (h x m) ∙ f) refl)
        | inr m ↦ m
      ] in
      cond-false (more x) (x ∷ filter more xs) (filter more xs) off
      ∙ none_of test more h xs (sym (cond-false (test x) (x ∷ filter test xs) (filter test xs) f) ∙ e)
]

-- a table of no pairs is empty, and no other
pub has_pairs : (ps : List Pair) → not (nat_eq (length (map key_of ps)) 0) ≡ nat_lt 0 (length (sequence_table ps))
unfolding sequence_table subtable_bytes
has_pairs [] = refl
has_pairs (p ∷ ps) =
    let left : eqb (length (map key_of (p ∷ ps))) 0 ≡ false =
    ne_eqb (length (map key_of (p ∷ ps))) 0 (λ e. omega (arith, e)) in
    ap not left ∙ sym (lt-ltb 0 (length (sequence_table (p ∷ ps))) (omega arith))

pub no_part : (o : OpenSequences) (keys : List ℕ) → AreIndexed o keys → (from to g : ℕ) → from ≤ g → g < to
    → length (keys_between from to keys) ≡ 0 → nat_lt 0 (length (sequence_table (part_of o.pairs g))) ≡ false
no_part o keys is from to g low high none =
    let empty : keys_between from to keys ≡ [] = nothing (keys_between from to keys) none in
    let own : keys_between g (g + 1) keys ≡ [] =
    none_of (is_between from to) (is_between g (g + 1))
    (λ k t. grind (arith, nat_tests, t, low, high)) keys empty in
    sym (has_pairs (part_of o.pairs g))
    ∙ ap (λ (l : List ℕ). not (nat_eq (length l) 0)) (sym (keys_of_glyph o keys is g) ∙ own)
  where
    nothing : (l : List ℕ) → length l ≡ 0 → l ≡ []
    nothing [] e = refl
    nothing (x ∷ l) e = absurd (omega (arith, e))

-- two parts are the same exactly if their keys are
wider : (m n low : ℕ) (ps : List Pair) → m ≤ n → Rises (IsPairAmong m) place_of low ps
    → Rises (IsPairAmong n) place_of low ps
wider m n low [] h r = tt
wider m n low (p ∷ ps) h r =
    let low_glyph = r.0.low in (
      record { selector = r.0.selector; code = r.0.code; some = r.0.some; low = omega (arith, h, low_glyph) },
      r.1,
      wider m n (suc (place_of p)) ps h r.2,
    )

few_in_part : (o : OpenSequences) (keys : List ℕ) → AreIndexed o keys → (g : ℕ)
    → length (part_of o.pairs g) ≤ MAX_PAIRS
few_in_part o keys is g =
    let all = (sequences_in-among o.count is.table.0).1 in
    let same = ap (λ (ps : List Pair). length ps) is.table.1 in
    omega (arith, part-few o.pairs g, same, all)

pub same_parts : (o w : OpenSequences) (keys others : List ℕ) → AreIndexed o keys → AreIndexed w others → (g : ℕ)
    → bytes_eq (map key_of (part_of o.pairs g)) (map key_of (part_of w.pairs g))
    ≡ bytes_eq (sequence_table (part_of o.pairs g)) (sequence_table (part_of w.pairs g))
same_parts o w keys others a b g =
    let ps : List Pair = part_of o.pairs g in
    let qs : List Pair = part_of w.pairs g in
    let n : ℕ = o.count + w.count in
    let r : AreAmong o.count ps = part-among o.count o.pairs g (among o keys a) in
    let s : AreAmong w.count qs = part-among w.count w.pairs g (among w others b) in
    let first : sequences_in n (sequence_table ps) ≡ ps =
    sequences_in-table n ps (wider o.count n 0 ps (omega arith) r) (few_in_part o keys a g) in
    let second : sequences_in n (sequence_table qs) ≡ qs =
    sequences_in-table n qs (wider w.count n 0 qs (omega arith) s) (few_in_part w others b g) in
    let numbers = bytes_eq-Decides (map key_of ps) (map key_of qs) in
    let tables = bytes_eq-Decides (sequence_table ps) (sequence_table qs) in
    equal_tests _ _
    (λ t. tables.1 (ap sequence_table (same_keys o.count w.count 0 0 ps qs r s (numbers.0 t))))
    (λ t. numbers.1 (ap (map key_of) (sym first ∙ ap (sequences_in n) (tables.0 t) ∙ second)))
