-- Parts do not fit exactly if two of them have one selector and code, or there are too many pairs.
use Rattle.std.proofs.Common.{◌≡◌, ◌≢◌, ℕ, suc, ◌+◌, ◌*◌, ◌<◌, Bool, true, false, cond, eqb, ◌||◌, List, [], ◌∷◌, Some}
use Rattle.std.proofs.Common.{refl, ap, subst, sym, ◌∙◌, arith, inl, inr}
use Rattle.std.specs.List.{filter, list_any, range_with_len}
use Rattle.std.specs.Option.{is_some, unwrap_or}
use Rattle.std.proofs.lemmas.Bool.{and_from, both_ways, cases_Bool, cond-false, cond-true, eq-eqb, eqb-true, and_parts}
use Rattle.codes.specs.declared.code_points.TheConstants.{CODES}
use Rattle.variation_sequences.specs.declared.variant.Pair.{Pair}
use Rattle.font_theory.specs.Content.{glyph_count}
use Rattle.sequence_parts.specs.Laws.{ClashIsInTwoParts, TwoPartsDoNotFit}
use Rattle.font_theory.specs.OrderedPairs.{first_twice, is_pair_of, place_of}
use Rattle.font_theory.specs.Parted.{sequences}
use Rattle.font_theory.specs.SequenceTable.{have_room, pairs_at, pairs_of_parts}
use Rattle.sequence_parts.specs.Clashes.{either_part, first_clash, has_sequence}
use Rattle.font_theory.proofs.MergeLemmas.{Sorts}
use Rattle.font_theory.proofs.OrderLemmas.{Rises, rises_from}
use Rattle.font_theory.proofs.SequencePartLemmas.{at-among, among-sorts, part-filter, part-of_parts, room_rises}
use Rattle.font_theory.proofs.SequenceTableLemmas.{AreAmong, IsPairAmong}

-- a pair of a glyph
abbrev of_glyph : ℕ → Pair → Bool
of_glyph g p = eqb p.glyph g

-- pairs of a glyph have a selector and code
abbrev Has : ℕ → ℕ → ℕ → List Pair → Type 0
Has v c g ps = list_any (is_pair_of v c) (filter (of_glyph g) ps) ≡ true

pub at_place : (v c : ℕ) (p : Pair) → is_pair_of v c p ≡ true → place_of p ≡ CODES * v + c
unfolding place_of
at_place v c p t =
    let both = and_parts (eqb p.selector v) (eqb p.code c) t in
    omega (arith, eqb-true p.selector v both.0, eqb-true p.code c both.1)

-- one more pair in front
has_tail : (v c g : ℕ) (p : Pair) (ps : List Pair) → Has v c g (p ∷ ps) → is_pair_of v c p ≡ false → Has v c g ps
has_tail v c g p ps h off = elim (cases_Bool (of_glyph g p)) as (λ _. Has v c g ps) [
  | inl t ↦
      sym (ap (λ (qs : List Pair). list_any (is_pair_of v c) qs)
      (cond-true (of_glyph g p) (p ∷ filter (of_glyph g) ps) (filter (of_glyph g) ps) t)
      ∙ ap (λ b. b || list_any (is_pair_of v c) (filter (of_glyph g) ps)) off) ∙ h
  | inr f ↦
      sym (ap (λ (qs : List Pair). list_any (is_pair_of v c) qs)
      (cond-false (of_glyph g p) (p ∷ filter (of_glyph g) ps) (filter (of_glyph g) ps) f)) ∙ h
]

has_more : (v c g : ℕ) (p : Pair) (ps : List Pair) → Has v c g ps → Has v c g (p ∷ ps)
has_more v c g p ps h = by_test (of_glyph g p)
  where
    by_test : (b : Bool)
        → list_any (is_pair_of v c) (cond b (p ∷ filter (of_glyph g) ps) (filter (of_glyph g) ps)) ≡ true
    by_test true = ap (λ b. is_pair_of v c p || b) h ∙ or_true (is_pair_of v c p)
      where
        or_true : (b : Bool) → (b || true) ≡ true
        or_true true = refl
        or_true false = refl
    by_test false = h

has_first : (v c : ℕ) (p : Pair) (ps : List Pair) → is_pair_of v c p ≡ true → Has v c p.glyph (p ∷ ps)
has_first v c p ps t =
    ap (λ (qs : List Pair). list_any (is_pair_of v c) qs)
    (cond-true (of_glyph p.glyph p) (p ∷ filter (of_glyph p.glyph) ps) (filter (of_glyph p.glyph) ps)
    (eq-eqb p.glyph p.glyph refl))
    ∙ ap (λ b. b || list_any (is_pair_of v c) (filter (of_glyph p.glyph) ps)) t

module _ (n : ℕ) where
  -- of pairs whose places rise one has a selector and code
  none_later : (v c g low : ℕ) (ps : List Pair) → CODES * v + c < low → Rises (IsPairAmong n) place_of low ps
      → Has v c g ps → ⊥
  none_later v c g low [] h r has = both_ways true (sym has) refl
  none_later v c g low (p ∷ ps) h r has = elim (cases_Bool (is_pair_of v c p)) [
    | inl t ↦ omega (arith, at_place v c p t, h, r.1)
    | inr f ↦ none_later v c g (suc (place_of p)) ps (omega (arith, h, r.1)) r.2 (has_tail v c g p ps has f)
  ]

  first_has : (v c g low : ℕ) (p : Pair) (ps : List Pair) → Rises (IsPairAmong n) place_of low (p ∷ ps)
      → is_pair_of v c p ≡ true → Has v c g (p ∷ ps) → p.glyph ≡ g
  first_has v c g low p ps r t has = elim (cases_Bool (of_glyph g p)) [
    | inl same ↦ eqb-true p.glyph g same
    | inr other ↦
        let later : Has v c g ps =
        sym (ap (λ (qs : List Pair). list_any (is_pair_of v c) qs)
        (cond-false (of_glyph g p) (p ∷ filter (of_glyph g) ps) (filter (of_glyph g) ps) other)) ∙ has in
        absurd (none_later v c g (suc (place_of p)) ps (omega (arith, at_place v c p t)) r.2 later)
  ]

  one_glyph : (v c g h low : ℕ) (ps : List Pair) → Rises (IsPairAmong n) place_of low ps → Has v c g ps
      → Has v c h ps → g ≡ h
  one_glyph v c g h low [] r first second = absurd (both_ways true (sym first) refl)
  one_glyph v c g h low (p ∷ ps) r first second = elim (cases_Bool (is_pair_of v c p)) [
    | inl t ↦ sym (first_has v c g low p ps r t first) ∙ first_has v c h low p ps r t second
    | inr f ↦
        one_glyph v c g h (suc (place_of p)) ps r.2 (has_tail v c g p ps first f) (has_tail v c h p ps second f)
  ]

  -- two pairs of one place
  same_place : (p q : Pair) → IsPairAmong n p → IsPairAmong n q → place_of p ≡ place_of q
      → is_pair_of p.selector p.code q ≡ true
  unfolding place_of
  same_place p q a b e =
      let selector : q.selector ≡ p.selector = omega (arith, e, a.code, b.code) in
      and_from (eqb q.selector p.selector) (eqb q.code p.code) (eq-eqb q.selector p.selector selector)
      (eq-eqb q.code p.code (omega (arith, e, selector)))

  abbrev RiseByGlyph : List Pair → Type 0
  RiseByGlyph ps = (g : ℕ) → g < n → Rises (IsPairAmong n) place_of 0 (filter (of_glyph g) ps)

  rise_tail : (p : Pair) (ps : List Pair) → RiseByGlyph (p ∷ ps) → RiseByGlyph ps
  rise_tail p ps r g low = elim (cases_Bool (of_glyph g p)) [
    | inl t ↦
        let all : Rises (IsPairAmong n) place_of 0 (p ∷ filter (of_glyph g) ps) =
        subst (Rises (IsPairAmong n) place_of 0) (cond-true (of_glyph g p) _ _ t) (r g low) in
        rises_from (IsPairAmong n) place_of 0 (suc (place_of p)) (filter (of_glyph g) ps) (omega arith) all.2
    | inr f ↦ subst (Rises (IsPairAmong n) place_of 0) (cond-false (of_glyph g p) _ _ f) (r g low)
  ]

  apart : (p q : Pair) (ps : List Pair) → p.glyph < n → RiseByGlyph (p ∷ q ∷ ps) → place_of p ≡ place_of q
      → p.glyph ≢ q.glyph
  apart p q ps low r e same =
      let g : ℕ = p.glyph in
      let first : of_glyph g p ≡ true = eq-eqb g g refl in
      let second : of_glyph g q ≡ true = eq-eqb q.glyph g (sym same) in
      let is : filter (of_glyph g) (p ∷ q ∷ ps) ≡ p ∷ q ∷ filter (of_glyph g) ps =
      cond-true (of_glyph g p) _ _ first ∙ ap (λ (qs : List Pair). p ∷ qs) (cond-true (of_glyph g q) _ _ second) in
      let rises : Rises (IsPairAmong n) place_of 0 (p ∷ q ∷ filter (of_glyph g) ps) =
      subst (Rises (IsPairAmong n) place_of 0) is (r g low) in
      omega (arith, e, rises.2.1)

  -- the glyphs of two pairs in a list that have a selector and code
  pub record HaveBoth (v c : ℕ) (ps : List Pair) : Type 0 where
    pub one : ℕ
    pub other : ℕ
    pub one_low : one < n
    pub other_low : other < n
    pub apart : one ≢ other
    pub one_has : Has v c one ps
    pub other_has : Has v c other ps

  both_more : (v c : ℕ) (p : Pair) (ps : List Pair) → HaveBoth v c ps → HaveBoth v c (p ∷ ps)
  both_more v c p ps b = record {
    one = b.one;
    other = b.other;
    one_low = b.one_low;
    other_low = b.other_low;
    apart = b.apart;
    one_has = has_more v c b.one p ps b.one_has;
    other_has = has_more v c b.other p ps b.other_has;
  }

  both_first : (p q : Pair) (ps : List Pair) (low : ℕ) → Sorts (IsPairAmong n) low (p ∷ q ∷ ps)
      → RiseByGlyph (p ∷ q ∷ ps) → place_of p ≡ place_of q → HaveBoth p.selector p.code (p ∷ q ∷ ps)
  both_first p q ps low s r e = record {
    one = p.glyph;
    other = q.glyph;
    one_low = s.0.low;
    other_low = s.2.0.low;
    apart = apart p q ps s.0.low r e;
    one_has = has_first p.selector p.code p (q ∷ ps) (same_place p p s.0 s.0 refl);
    other_has = has_more p.selector p.code q.glyph p (q ∷ ps)
        (has_first p.selector p.code q ps (same_place p q s.0 s.2.0 e));
  }

  find_both : (low : ℕ) (ps : List Pair) → Sorts (IsPairAmong n) low ps → RiseByGlyph ps → (x : ℕ × ℕ)
      → first_twice ps ≡ Some x → HaveBoth x.0 x.1 ps
  unfolding first_twice
  find_both low [] s r x is = absurd (both_ways true (ap is_some (sym is)) refl)
  find_both low (p ∷ []) s r x is = absurd (both_ways true (ap is_some (sym is)) refl)
  find_both low (p ∷ q ∷ qs) s r x is = elim (cases_Bool (eqb (place_of p) (place_of q))) [
    | inl t ↦
        let same = sym (cond-true (eqb (place_of p) (place_of q)) _ _ t) ∙ is in
        subst (λ y. HaveBoth y.0 y.1 (p ∷ q ∷ qs)) (ap (λ o. unwrap_or o x) same)
        (both_first p q qs low s r (eqb-true (place_of p) (place_of q) t))
    | inr f ↦
        both_more x.0 x.1 p (q ∷ qs) (find_both (place_of p) (q ∷ qs) s.2 (rise_tail p (q ∷ qs) r) x
        (sym (cond-false (eqb (place_of p) (place_of q)) _ _ f) ∙ is))
  ]

-- so of parts
module _ (n : ℕ) (parts : ℕ → List ℕ) where
  by_glyph : (g : ℕ) → g < n → filter (of_glyph g) (pairs_of_parts n parts) ≡ pairs_at n parts g
  by_glyph g low = sym (part-filter (pairs_of_parts n parts) g) ∙ part-of_parts n parts g low

  has_it : (v c g : ℕ) → g < n → Has v c g (pairs_of_parts n parts) ≡ (has_sequence n parts v c g ≡ true)
  unfolding has_sequence
  has_it v c g low = ap (λ (ps : List Pair). list_any (is_pair_of v c) ps ≡ true) (by_glyph g low)

  parts_rise : RiseByGlyph n (pairs_of_parts n parts)
  parts_rise g low = subst (AreAmong n) (sym (by_glyph g low)) (at-among n parts g)

  parts_sort : Sorts (IsPairAmong n) 0 (pairs_of_parts n parts)
  unfolding pairs_of_parts
  parts_sort = among-sorts n parts (range_with_len 0 n)

  twice_in_two : (v c : ℕ) → first_twice (pairs_of_parts n parts) ≡ Some (v, c)
      → (g : ℕ) × (h : ℕ) × (g ≢ h) × (has_sequence n parts v c g ≡ true) × (has_sequence n parts v c h ≡ true)
  twice_in_two v c is =
      let b = find_both n 0 (pairs_of_parts n parts) parts_sort parts_rise (v, c) is in
      (b.one, b.other, b.apart, as_part b.one b.one_low b.one_has, as_part b.other b.other_low b.other_has)
    where
      as_part : (g : ℕ) → g < n → Has v c g (pairs_of_parts n parts) → has_sequence n parts v c g ≡ true
      as_part g low has = subst (λ (T : Type 0). T) (has_it v c g low) has

  no_room : (v c g h : ℕ) → g < n → h < n → g ≢ h → has_sequence n parts v c g ≡ true
      → has_sequence n parts v c h ≡ true → have_room (pairs_of_parts n parts) ≡ false
  no_room v c g h a b apart first second = elim (cases_Bool (have_room (pairs_of_parts n parts))) [
    | inl t ↦
        absurd (apart (one_glyph n v c g h 0 (pairs_of_parts n parts) (room_rises n parts t)
        (as_pairs g a first) (as_pairs h b second)))
    | inr f ↦ f
  ]
    where
      as_pairs : (k : ℕ) → k < n → has_sequence n parts v c k ≡ true → Has v c k (pairs_of_parts n parts)
      as_pairs k low has = subst (λ (T : Type 0). T) (sym (has_it v c k low)) has

pub clash_in_two : ClashIsInTwoParts
unfolding first_clash
clash_in_two n P Q v c is = twice_in_two n (either_part P Q) v c is

pub two_do_not_fit : TwoPartsDoNotFit
unfolding sequences
two_do_not_fit t parts v c g h a b apart first second = no_room (glyph_count t) parts v c g h a b apart first second
