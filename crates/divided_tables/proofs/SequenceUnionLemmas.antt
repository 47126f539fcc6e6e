-- The pairs of the parts of two tables are those of both in order.
use Rattle.std.proofs.Common.{◌≡◌, ℕ, zero, suc, ◌+◌, ◌*◌, ◌<◌, ◌≤◌, Bool, true, false, cond, eqb, ltb, not, List, []}
use Rattle.std.proofs.Common.{◌∷◌, refl, ap, subst, sym, ◌∙◌, arith, inl, inr}
use Rattle.std.specs.List.{filter, range_with_len, sum_by}
use Rattle.std.proofs.lemmas.Bool.{cases_lt, cond-false, cond-true, cond_both, eqb-true, le-ltb, lt-ltb}
use Rattle.std.proofs.lemmas.List.Sums.{sum_by-cons}
use Rattle.variation_sequences.specs.Pairs.{part_of}
use Rattle.variation_sequences.specs.declared.variant.Pair.{Pair}
use Rattle.font_theory.specs.OrderedPairs.{merged, place_of, with_one}
use Rattle.font_theory.specs.SequenceTable.{pairs_among, pairs_at, pairs_of_parts, sequence_table}
use Rattle.font_theory.specs.SequenceTable.{sequences_in}
use Rattle.font_theory.proofs.OrderLemmas.{Rises, rises_from}
use Rattle.font_theory.proofs.SequencePartLemmas.{filter-among, own_merged, part-filter, part-none}
use Rattle.font_theory.proofs.SequenceTableLemmas.{IsPairAmong, sequences_in-among, sequences_in-none}
use Rattle.divided_tables.specs.SequenceIndex.{inserted, is_of, order_of, together, united_pairs}
use Rattle.divided_tables.proofs.SequenceAscentLemmas.{Ascends, HaveSame, ascends_filter, ascends_from, same_ascending}

-- one more pair, by either order
sums_inserted : (f : Pair → ℕ) (p : Pair) (qs : List Pair) → sum_by f (inserted p qs) ≡ f p + sum_by f qs
sums_inserted f p [] = sum_by-cons f p []
sums_inserted f p (q ∷ qs) = by_test (ltb (order_of q) (order_of p)) (sums_inserted f p qs)
  where
    by_test : (b : Bool) → sum_by f (inserted p qs) ≡ f p + sum_by f qs
        → sum_by f (cond b (q ∷ inserted p qs) (p ∷ q ∷ qs)) ≡ f p + sum_by f (q ∷ qs)
    by_test true e = omega (arith, sum_by-cons f q (inserted p qs), sum_by-cons f q qs, e)
    by_test false e = sum_by-cons f p (q ∷ qs)

sums_one : (f : Pair → ℕ) (p : Pair) (qs : List Pair) → sum_by f (with_one p qs) ≡ f p + sum_by f qs
unfolding with_one
sums_one f p [] = sum_by-cons f p []
sums_one f p (q ∷ qs) = by_test (ltb (place_of q) (place_of p)) (sums_one f p qs)
  where
    by_test : (b : Bool) → sum_by f (with_one p qs) ≡ f p + sum_by f qs
        → sum_by f (cond b (q ∷ with_one p qs) (p ∷ q ∷ qs)) ≡ f p + sum_by f (q ∷ qs)
    by_test true e = omega (arith, sum_by-cons f q (with_one p qs), sum_by-cons f q qs, e)
    by_test false e = sum_by-cons f p (q ∷ qs)

pub sums_together : (f : Pair → ℕ) (ps qs : List Pair) → sum_by f (together ps qs) ≡ sum_by f ps + sum_by f qs
sums_together f [] qs = omega arith
sums_together f (p ∷ ps) qs =
    omega (arith, sums_inserted f p (together ps qs), sums_together f ps qs, sum_by-cons f p ps)

sums_merged : (f : Pair → ℕ) (ps qs : List Pair) → sum_by f (merged ps qs) ≡ sum_by f ps + sum_by f qs
sums_merged f [] qs = omega arith
sums_merged f (p ∷ ps) qs =
    omega (arith, sums_one f p (merged ps qs), sums_merged f ps qs, sum_by-cons f p ps)

sums_among : (n : ℕ) (parts : ℕ → List ℕ) (f : Pair → ℕ) (gs : List ℕ)
    → sum_by f (pairs_among n parts gs) ≡ sum_by (λ g. sum_by f (pairs_at n parts g)) gs
sums_among n parts f [] = refl
sums_among n parts f (g ∷ gs) =
    omega (
      arith,
      sums_merged f (pairs_at n parts g) (pairs_among n parts gs),
      sums_among n parts f gs,
      sum_by-cons (λ h. sum_by f (pairs_at n parts h)) g gs,
    )

-- in order
ascends_inserted : (P : Pair → Type 0) (p : Pair) (low : ℕ) (qs : List Pair) → P p → low ≤ order_of p
    → Ascends P order_of low qs → Ascends P order_of low (inserted p qs)
ascends_inserted P p low [] x h s = (x, h, tt)
ascends_inserted P p low (q ∷ qs) x h s = elim (cases_lt (order_of q) (order_of p)) [
  | inl above ↦
      let below : order_of q ≤ order_of p = omega (arith, above) in
      subst (Ascends P order_of low)
      (sym (cond-true (ltb (order_of q) (order_of p)) (q ∷ inserted p qs) (p ∷ q ∷ qs)
      (lt-ltb (order_of q) (order_of p) above)))
      (s.0, s.1, ascends_inserted P p (order_of q) qs x below s.2)
  | inr here ↦
      subst (Ascends P order_of low)
      (sym (cond-false (ltb (order_of q) (order_of p)) (q ∷ inserted p qs) (p ∷ q ∷ qs)
      (le-ltb (order_of q) (order_of p) here)))
      (x, h, (s.0, here, s.2))
]

pub ascends_together : (P : Pair → Type 0) (low : ℕ) (ps qs : List Pair) → Ascends P order_of low ps
    → Ascends P order_of low qs → Ascends P order_of low (together ps qs)
ascends_together P low [] qs r s = s
ascends_together P low (p ∷ ps) qs r s =
    ascends_inserted P p low (together ps qs) r.0 r.1
    (ascends_together P low ps qs (ascends_from P order_of low (order_of p) ps r.1 r.2) s)

module _ (n : ℕ) (few : n ≤ 65536) where
  -- pairs of glyphs from one on
  abbrev From : ℕ → Pair → Type 0
  From a p = IsPairAmong n p × (a ≤ p.glyph)

  abbrev Of : ℕ → Pair → Type 0
  Of g p = IsPairAmong n p × (p.glyph ≡ g)

  less : (p q : Pair) → IsPairAmong n q → place_of q < place_of p → order_of q ≤ order_of p
  unfolding order_of
  less p q is h = let low = is.low in omega (arith, low, few, h)

  as_much : (p q : Pair) → p.glyph ≤ q.glyph → place_of p ≤ place_of q → order_of p ≤ order_of q
  unfolding order_of
  as_much p q g h = omega (arith, g, h)

  own_order : (p q : Pair) → IsPairAmong n p → IsPairAmong n q → order_of p ≡ order_of q → p ≡ q
  unfolding order_of place_of
  own_order p q a b e =
      let glyph : p.glyph ≡ q.glyph = omega (arith, e, few, a.low, b.low) in
      let selector : p.selector ≡ q.selector = omega (arith, e, glyph, a.code, b.code) in
      let code : p.code ≡ q.code = omega (arith, e, glyph, selector) in
      λ i. record { selector = selector i; code = code i; glyph = glyph i }

  pub rises_ascend : (low : ℕ) (ps : List Pair) → Rises (IsPairAmong n) place_of low ps
      → Ascends (IsPairAmong n) order_of (low * 65536) ps
  unfolding order_of
  rises_ascend low [] r = tt
  rises_ascend low (p ∷ ps) r = (
    r.0,
    omega (arith, r.1),
    ascends_from (IsPairAmong n) order_of (order_of p) (suc (place_of p) * 65536) ps
        (let low_glyph = r.0.low in omega (arith, low_glyph, few)) (rises_ascend (suc (place_of p)) ps r.2),
  )

  ascends_one : (a : ℕ) (p : Pair) (low : ℕ) (qs : List Pair) → Of a p → low ≤ order_of p
      → Ascends (From a) order_of low qs → Ascends (From a) order_of low (with_one p qs)
  unfolding with_one
  ascends_one a p low [] x h s = ((x.0, omega (arith, x.1)), h, tt)
  ascends_one a p low (q ∷ qs) x h s = elim (cases_lt (place_of q) (place_of p)) [
    | inl above ↦
        subst (Ascends (From a) order_of low)
        (sym (cond-true (ltb (place_of q) (place_of p)) (q ∷ with_one p qs) (p ∷ q ∷ qs)
        (lt-ltb (place_of q) (place_of p) above)))
        (s.0, s.1, ascends_one a p (order_of q) qs x (less p q s.0.0 above) s.2)
    | inr here ↦
        subst (Ascends (From a) order_of low)
        (sym (cond-false (ltb (place_of q) (place_of p)) (q ∷ with_one p qs) (p ∷ q ∷ qs)
        (le-ltb (place_of q) (place_of p) here)))
        ((x.0, omega (arith, x.1)), h, (s.0, as_much p q (omega (arith, x.1, s.0.1)) here, s.2))
  ]

  ascends_merged : (a low : ℕ) (ps qs : List Pair) → Rises (Of a) place_of low ps
      → Ascends (From a) order_of 0 qs → Ascends (From a) order_of 0 (merged ps qs)
  ascends_merged a low [] qs r s = s
  ascends_merged a low (p ∷ ps) qs r s =
      ascends_one a p 0 (merged ps qs) r.0 (omega arith) (ascends_merged a (suc (place_of p)) ps qs r.2 s)

  rises_part : (g low : ℕ) (ps : List Pair) → Rises (IsPairAmong n) place_of low ps
      → Rises (Of g) place_of low (filter (λ p. eqb p.glyph g) ps)
  rises_part g low [] r = tt
  rises_part g low (p ∷ ps) r =
      let rest = rises_part g (suc (place_of p)) ps r.2 in
      let others : List Pair = filter (λ q. eqb q.glyph g) ps in
      cond_both (eqb p.glyph g) (p ∷ others) others (Rises (Of g) place_of low)
      (λ t. ((r.0, eqb-true p.glyph g t), r.1, rest))
      (λ f. rises_from (Of g) place_of low (suc (place_of p)) others (omega (arith, r.1)) rest)

  from_less : (a b low : ℕ) (ps : List Pair) → a ≤ b → Ascends (From b) order_of low ps
      → Ascends (From a) order_of low ps
  from_less a b low [] h s = tt
  from_less a b low (p ∷ ps) h s =
      ((s.0.0, omega (arith, h, s.0.1)), s.1, from_less a b (order_of p) ps h s.2)

  among_ascends : (parts : ℕ → List ℕ) (a m : ℕ)
      → Ascends (From a) order_of 0 (pairs_among n parts (range_with_len a m))
  among_ascends parts a zero = tt
  among_ascends parts a (suc m) =
      ascends_merged a 0 (pairs_at n parts a) (pairs_among n parts (range_with_len (a + 1) m))
      (subst (Rises (Of a) place_of 0) (sym (part-filter (sequences_in n (parts a)) a))
      (rises_part a 0 (sequences_in n (parts a)) (sequences_in-among n (parts a)).0))
      (from_less a (a + 1) 0 (pairs_among n parts (range_with_len (a + 1) m)) (omega arith)
      (among_ascends parts (a + 1) m))

  alone : (a low : ℕ) (ps : List Pair) → Ascends (From a) order_of low ps → Ascends (IsPairAmong n) order_of low ps
  alone a low [] s = tt
  alone a low (p ∷ ps) s = (s.0.0, s.1, alone a (order_of p) ps s.2)

-- parts of the pairs of one table, of some glyphs alone
pub kept_of_table : (n : ℕ) (t : List ℕ) (keep : ℕ → Bool)
    → pairs_of_parts n (λ g. cond (keep g) (sequence_table (part_of (sequences_in n t) g)) [])
    ≡ filter (λ p. keep p.glyph) (sequences_in n t)
unfolding pairs_of_parts
kept_of_table n t keep =
    let both = sequences_in-among n t in
    let ps : List Pair = sequences_in n t in
    sym (filter-among n (λ g. sequence_table (part_of ps g)) keep
    (λ g. cond (keep g) (sequence_table (part_of ps g)) []) (λ g. by_test g (keep g)) (range_with_len 0 n))
    ∙ ap (filter (λ p. keep p.glyph)) (own_merged n ps both.0 both.1)
  where
    by_test : (g : ℕ) (b : Bool) →
        part_of (sequences_in n (cond b (sequence_table (part_of (sequences_in n t) g)) [])) g
        ≡ cond b (part_of (sequences_in n (sequence_table (part_of (sequences_in n t) g))) g) []
    by_test g true = refl
    by_test g false = ap (λ (ps : List Pair). part_of ps g) (sequences_in-none n) ∙ part-none g

-- sums over what two families have
sum_split : (c : ℕ → Bool) (f : ℕ → List ℕ → ℕ) → ((g : ℕ) → f g [] ≡ 0) → (P Q : ℕ → List ℕ) (gs : List ℕ)
    → sum_by (λ g. f g (cond (c g) (P g) (Q g))) gs
    ≡ sum_by (λ g. f g (cond (c g) (P g) [])) gs + sum_by (λ g. f g (cond (not (c g)) (Q g) [])) gs
sum_split c f none P Q [] = refl
sum_split c f none P Q (g ∷ gs) =
    let one = by_test (c g) in
    omega (
      arith,
      one,
      sum_split c f none P Q gs,
      sum_by-cons (λ h. f h (cond (c h) (P h) (Q h))) g gs,
      sum_by-cons (λ h. f h (cond (c h) (P h) [])) g gs,
      sum_by-cons (λ h. f h (cond (not (c h)) (Q h) [])) g gs,
    )
  where
    by_test : (b : Bool) → f g (cond b (P g) (Q g)) ≡ f g (cond b (P g) []) + f g (cond (not b) (Q g) [])
    by_test true = omega (arith, none g)
    by_test false = omega (arith, none g)

-- the pairs of the parts of two tables, of the first for some glyphs
pub union_is : (n : ℕ) → n ≤ 65536 → (t u : List ℕ) (c : ℕ → Bool)
    → pairs_of_parts n (λ g. cond (c g) (sequence_table (part_of (sequences_in n t) g))
    (sequence_table (part_of (sequences_in n u) g)))
    ≡ united_pairs c (sequences_in n t) (sequences_in n u)
unfolding pairs_of_parts united_pairs
union_is n few t u c =
    let ps : List Pair = sequences_in n t in
    let qs : List Pair = sequences_in n u in
    let first : List Pair = filter (is_of c true) ps in
    let second : List Pair = filter (is_of c false) qs in
    let P : ℕ → List ℕ = λ g. sequence_table (part_of ps g) in
    let Q : ℕ → List ℕ = λ g. sequence_table (part_of qs g) in
    let one : ℕ → List ℕ = λ g. cond (c g) (P g) [] in
    let other : ℕ → List ℕ = λ g. cond (not (c g)) (Q g) [] in
    let both : ℕ → List ℕ = λ g. cond (c g) (P g) (Q g) in
    let all : List ℕ = range_with_len 0 n in
    let r = rises_ascend n few 0 ps (sequences_in-among n t).0 in
    let s = rises_ascend n few 0 qs (sequences_in-among n u).0 in
    let same : HaveSame (pairs_among n both all) (together first second) =
    λ f. sums_among n both f all
    ∙ sum_split c (λ g b. sum_by f (part_of (sequences_in n b) g))
    (λ g. ap (λ (l : List Pair). sum_by f l)
    (ap (λ (l : List Pair). part_of l g) (sequences_in-none n) ∙ part-none g)) P Q all
    ∙ (λ i. (sym (sums_among n one f all) ∙ ap (λ (l : List Pair). sum_by f l) (kept_of_table n t c)) i
    + (sym (sums_among n other f all) ∙ ap (λ (l : List Pair). sum_by f l) (kept_of_table n u (λ g. not (c g)))) i)
    ∙ sym (sums_together f first second) in
    same_ascending (IsPairAmong n) order_of (own_order n few) 0 0 (pairs_among n both all) (together first second)
    (alone n few 0 0 (pairs_among n both all) (among_ascends n few both 0 n))
    (ascends_together (IsPairAmong n) 0 first second (ascends_filter (IsPairAmong n) order_of (is_of c true) 0 ps r)
    (ascends_filter (IsPairAmong n) order_of (is_of c false) 0 qs s))
    same
