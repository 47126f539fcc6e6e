-- Variation sequences are divided as is asked.
use Rattle.std.proofs.Common.{◌≡◌, ℕ, zero, suc, ◌+◌, ◌<◌, ◌≤◌, Bool, true, false, cond, eqb, leb, ltb, not, ◌&&◌, ◌||◌}
use Rattle.std.proofs.Common.{◌⊎◌, List, [], ◌∷◌, length, Option, None, Some, refl, ap, sym, ◌∙◌, arith, inl, inr}
use Rattle.std.specs.List.{filter, range_with_len}
use Rattle.std.specs.Option.{is_some}
use Rattle.std.proofs.lemmas.Bool.{and_from, and_parts, both_ways, cases_Bool, cases_eq, cond-true, eq-eqb, eqb-true}
use Rattle.std.proofs.lemmas.Bool.{le-leb, leb-true, ne_eqb, not-false}
use Rattle.std.proofs.lemmas.Bool.Decides.{nat_tests}
use Rattle.std.proofs.lemmas.Slice.Eq.{bytes_eq-Decides}
use Rattle.variation_sequences.specs.Pairs.{part_of}
use Rattle.variation_sequences.specs.declared.variant.Pair.{Pair}
use Rattle.font_theory.specs.Content.{glyph_count}
use Rattle.font_theory.specs.Parting.{IsParting, Tables, is_bad_at}
use Rattle.font_theory.specs.OrderedPairs.{first_twice, merged, place_of}
use Rattle.font_theory.specs.SequenceTable.{MAX_PAIRS, have_room, is_bad_sequences, pairs_among, pairs_at, sequences_in}
use Rattle.font_theory.specs.SequenceTable.{pairs_of_parts, sequence_table}
use Rattle.font_theory.specs.declared.kinds.TheConstants.{SEQUENCES}
use Rattle.font_theory.specs.Parted.{sequences}
use Rattle.font_theory.proofs.MergeLemmas.{Sorts, filter-merged, merged-filters, merged-none, once_rises, rises_once}
use Rattle.font_theory.proofs.MergeLemmas.{sorts_merged}
use Rattle.font_theory.proofs.OrderLemmas.{filter_all, filter_few, filter_none, rises_filter}
use Rattle.font_theory.proofs.SequenceTableLemmas.{AreAmong, IsPairAmong, sequences_in-among, sequences_in-none}
use Rattle.font_theory.proofs.SequenceTableLemmas.{sequences_in-table}

-- a test of glyphs keeps the part of a glyph, or nothing of it
no_pairs : (b : Bool) (ps : List Pair) → ps ≡ [] → ps ≡ cond b ps []
no_pairs true ps e = refl
no_pairs false ps e = e

pub filter-part : (keep : ℕ → Bool) (ps : List Pair) (g : ℕ)
    → filter (λ p. keep p.glyph) (part_of ps g) ≡ cond (keep g) (part_of ps g) []
unfolding part_of
filter-part keep [] g = no_pairs (keep g) [] refl
filter-part keep (p ∷ ps) g = elim (cases_Bool (eqb p.glyph g)) as (λ _.
    filter (λ q. keep q.glyph) (part_of (p ∷ ps) g) ≡ cond (keep g) (part_of (p ∷ ps) g) []) [
      | inl t ↦ rw t (ap (λ (k : ℕ). cond (keep k) (p ∷ filter (λ q. keep q.glyph) (part_of ps g))
          (filter (λ q. keep q.glyph) (part_of ps g))) (eqb-true p.glyph g t)
          ∙ both (keep g) (filter-part keep ps g))
      | inr f ↦ rw f (filter-part keep ps g)
    ]
  where
    both : (b : Bool) → filter (λ q. keep q.glyph) (part_of ps g) ≡ cond b (part_of ps g) []
        → cond b (p ∷ filter (λ q. keep q.glyph) (part_of ps g)) (filter (λ q. keep q.glyph) (part_of ps g))
        ≡ cond b (p ∷ part_of ps g) []
    both true e = ap (λ (qs : List Pair). p ∷ qs) e
    both false e = e

pub part-among : (n : ℕ) (ps : List Pair) (g : ℕ) → AreAmong n ps → AreAmong n (part_of ps g)
unfolding part_of
part-among n ps g r = rises_filter (IsPairAmong n) place_of (λ p. eqb p.glyph g) 0 ps r

pub part-few : (ps : List Pair) (g : ℕ) → length (part_of ps g) ≤ length ps
unfolding part_of
part-few ps g = filter_few (λ p. eqb p.glyph g) ps

pub part-none : (g : ℕ) → part_of [] g ≡ []
unfolding part_of
part-none g = refl

pub part-filter : (ps : List Pair) (g : ℕ) → part_of ps g ≡ filter (λ p. eqb p.glyph g) ps
unfolding part_of
part-filter ps g = refl

part-part : (ps : List Pair) (g : ℕ) → part_of (part_of ps g) g ≡ part_of ps g
part-part ps g =
    part-filter (part_of ps g) g ∙ filter-part (λ k. eqb k g) ps g ∙ cond-true (eqb g g) _ _ (eq-eqb g g refl)

-- the pairs of parts
module _ (n : ℕ) (parts : ℕ → List ℕ) where
  pub at-among : (g : ℕ) → AreAmong n (pairs_at n parts g)
  at-among g = part-among n (sequences_in n (parts g)) g (sequences_in-among n (parts g)).0

  pub among-sorts : (gs : List ℕ) → Sorts (IsPairAmong n) 0 (pairs_among n parts gs)
  among-sorts [] = tt
  among-sorts (g ∷ gs) =
      sorts_merged (IsPairAmong n) 0 (pairs_at n parts g) (pairs_among n parts gs) (at-among g) (among-sorts gs)

  -- a test of glyphs
  pub filter-among : (keep : ℕ → Bool) (fewer : ℕ → List ℕ)
      → ((g : ℕ) → pairs_at n fewer g ≡ cond (keep g) (pairs_at n parts g) []) → (gs : List ℕ)
      → filter (λ p. keep p.glyph) (pairs_among n parts gs) ≡ pairs_among n fewer gs
  filter-among keep fewer e [] = refl
  filter-among keep fewer e (g ∷ gs) =
      filter-merged (IsPairAmong n) (λ p. keep p.glyph) 0 (pairs_at n parts g) (pairs_among n parts gs) (at-among g)
      (among-sorts gs)
      ∙ (λ i. merged ((filter-part keep (sequences_in n (parts g)) g ∙ sym (e g)) i) (filter-among keep fewer e gs i))

  -- the part of a glyph
  part-past : (g a m : ℕ) → g < a → filter (λ p. eqb p.glyph g) (pairs_among n parts (range_with_len a m)) ≡ []
  part-past g a zero h = refl
  part-past g a (suc m) h =
      filter-merged (IsPairAmong n) (λ p. eqb p.glyph g) 0 (pairs_at n parts a)
      (pairs_among n parts (range_with_len (a + 1) m)) (at-among a) (among-sorts (range_with_len (a + 1) m))
      ∙ (λ i. merged ((filter-part (λ k. eqb k g) (sequences_in n (parts a)) a
      ∙ ap (λ b. cond b (pairs_at n parts a) []) (ne_eqb a g (λ e. omega (arith, e, h)))) i)
      (part-past g (a + 1) m (omega (arith, h)) i))

  part-here : (g a m : ℕ) → a ≤ g → g < a + m
      → filter (λ p. eqb p.glyph g) (pairs_among n parts (range_with_len a m)) ≡ pairs_at n parts g
  part-here g a zero h l = absurd (omega (arith, h, l))
  part-here g a (suc m) h l =
      filter-merged (IsPairAmong n) (λ p. eqb p.glyph g) 0 (pairs_at n parts a)
      (pairs_among n parts (range_with_len (a + 1) m)) (at-among a) (among-sorts (range_with_len (a + 1) m))
      ∙ ap (λ (ps : List Pair). merged ps
      (filter (λ p. eqb p.glyph g) (pairs_among n parts (range_with_len (a + 1) m))))
      (filter-part (λ k. eqb k g) (sequences_in n (parts a)) a)
      ∙ elim (cases_eq a g) [
        | inl e ↦
            (λ i. merged (cond (eq-eqb a g e i) (pairs_at n parts a) [])
            (part-past g (a + 1) m (omega (arith, e)) i))
            ∙ merged-none (IsPairAmong n) 0 (pairs_at n parts a) (at-among a)
            ∙ ap (pairs_at n parts) e
        | inr o ↦
            ap (λ b. merged (cond b (pairs_at n parts a) [])
            (filter (λ p. eqb p.glyph g) (pairs_among n parts (range_with_len (a + 1) m)))) (ne_eqb a g o)
            ∙ part-here g (a + 1) m (omega (arith, h, o)) (omega (arith, l))
      ]

  pub part-of_parts : (g : ℕ) → g < n → part_of (pairs_of_parts n parts) g ≡ pairs_at n parts g
  unfolding part_of pairs_of_parts
  part-of_parts g h = part-here g 0 n (omega arith) (omega (arith, h))

-- room
pub no_clash : (ps : List Pair) → have_room ps ≡ true → first_twice ps ≡ None
unfolding have_room
no_clash ps t = by_case (first_twice ps) (and_parts _ _ t).0
  where
    by_case : (o : Option (ℕ × ℕ)) → not (is_some o) ≡ true → o ≡ None
    by_case None e = refl
    by_case (Some x) e = absurd (both_ways false refl e)

pub few_pairs : (ps : List Pair) → have_room ps ≡ true → length ps ≤ MAX_PAIRS
unfolding have_room
few_pairs ps t = leb-true (length ps) MAX_PAIRS (and_parts _ _ t).1

pub room_without : (ps : List Pair) → first_twice ps ≡ None → length ps ≤ MAX_PAIRS → have_room ps ≡ true
unfolding have_room
room_without ps apart few =
    and_from _ _ (ap (λ o. not (is_some o)) apart) (le-leb (length ps) MAX_PAIRS few)

pub room_from : (n : ℕ) (ps : List Pair) → AreAmong n ps → length ps ≤ MAX_PAIRS → have_room ps ≡ true
room_from n ps r few = room_without ps (rises_once (IsPairAmong n) 0 ps r) few

pub room_rises : (n : ℕ) (parts : ℕ → List ℕ) → have_room (pairs_of_parts n parts) ≡ true
    → AreAmong n (pairs_of_parts n parts)
unfolding pairs_of_parts
room_rises n parts t =
    once_rises (IsPairAmong n) 0 (pairs_of_parts n parts) (among-sorts n parts (range_with_len 0 n))
    (no_clash (pairs_of_parts n parts) t)

-- parts of the pairs of one table are these pairs
module _ (n : ℕ) (ps : List Pair) (are : AreAmong n ps) (few : length ps ≤ MAX_PAIRS) where
  abbrev own_parts : ℕ → List ℕ
  own_parts g = sequence_table (part_of ps g)

  pub own_pairs : (g : ℕ) → pairs_at n own_parts g ≡ part_of ps g
  own_pairs g =
      ap (λ (qs : List Pair). part_of qs g)
      (sequences_in-table n (part_of ps g) (part-among n ps g are) (omega (arith, part-few ps g, few)))
      ∙ part-part ps g

  abbrev in_range : ℕ → ℕ → Pair → Bool
  in_range a m p = leb a p.glyph && ltb p.glyph (a + m)

  as_filter : (g : ℕ) → pairs_at n own_parts g ≡ filter (λ p. eqb p.glyph g) ps
  as_filter g = own_pairs g ∙ part-filter ps g

  range_step : (a m : ℕ) (p : Pair) → (eqb p.glyph a || in_range (a + 1) m p) ≡ in_range a (suc m) p
  range_step a m p = grind (arith, nat_tests)

  range_apart : (a m : ℕ) (p : Pair) → eqb p.glyph a ≡ true → in_range (a + 1) m p ≡ false
  range_apart a m p t = grind (arith, nat_tests)

  range_none : (a : ℕ) (p : Pair) → in_range a 0 p ≡ false
  range_none a p = grind (arith, nat_tests)

  range_all : (p : Pair) → IsPairAmong n p → in_range 0 n p ≡ true
  range_all p is = let low = is.low in grind (arith, nat_tests)

  among-range : (a m : ℕ) → pairs_among n own_parts (range_with_len a m) ≡ filter (in_range a m) ps
  among-range a zero = sym (filter_none (in_range a 0) (range_none a) ps)
  among-range a (suc m) =
      (λ i. merged (as_filter a i) (among-range (a + 1) m i))
      ∙ merged-filters (IsPairAmong n) (λ p. eqb p.glyph a) (in_range (a + 1) m) (range_apart a m) 0 ps are
      ∙ (λ i. filter (λ p. range_step a m p i) ps)

  pub own_merged : pairs_of_parts n own_parts ≡ ps
  unfolding pairs_of_parts
  own_merged = among-range 0 n ∙ filter_all (IsPairAmong n) place_of (in_range 0 n) range_all 0 ps are

  pub own_room : have_room (pairs_of_parts n own_parts) ≡ true
  own_room = ap have_room own_merged ∙ room_from n ps are few

-- fewer parts
module _ (n : ℕ) (parts fewer : ℕ → List ℕ) (few : (g : ℕ) → (fewer g ≡ []) ⊎ (fewer g ≡ parts g)) where
  abbrev kept : {A B : Type 0} → A ⊎ B → Bool
  kept (inl a) = false
  kept (inr b) = true

  kept_pairs : (g : ℕ) (w : (fewer g ≡ []) ⊎ (fewer g ≡ parts g))
      → pairs_at n fewer g ≡ cond (kept w) (pairs_at n parts g) []
  kept_pairs g (inl e) =
      ap (λ (b : List ℕ). part_of (sequences_in n b) g) e ∙ ap (λ (ps : List Pair). part_of ps g) (sequences_in-none n)
      ∙ part-none g
  kept_pairs g (inr e) = ap (λ (b : List ℕ). part_of (sequences_in n b) g) e

  fewer_pairs : filter (λ p. kept (few p.glyph)) (pairs_of_parts n parts) ≡ pairs_of_parts n fewer
  unfolding pairs_of_parts
  fewer_pairs =
      filter-among n parts (λ g. kept (few g)) fewer (λ g. kept_pairs g (few g)) (range_with_len 0 n)

  pub fewer_room : have_room (pairs_of_parts n parts) ≡ true → have_room (pairs_of_parts n fewer) ≡ true
  fewer_room t =
      let all = pairs_of_parts n parts in
      let left = filter (λ p. kept (few p.glyph)) all in
      ap have_room (sym fewer_pairs)
      ∙ room_from n left (rises_filter (IsPairAmong n) place_of (λ p. kept (few p.glyph)) 0 all (room_rises n parts t))
      (omega (arith, filter_few (λ p. kept (few p.glyph)) all, few_pairs all t))

-- the part of a glyph in the table of parts
pub part_in_whole : (n : ℕ) (parts : ℕ → List ℕ) (g : ℕ) → have_room (pairs_of_parts n parts) ≡ true → g < n
    → part_of (sequences_in n (sequence_table (pairs_of_parts n parts))) g ≡ pairs_at n parts g
part_in_whole n parts g t h =
    ap (λ (ps : List Pair). part_of ps g)
    (sequences_in-table n (pairs_of_parts n parts) (room_rises n parts t) (few_pairs (pairs_of_parts n parts) t))
    ∙ part-of_parts n parts g h

-- a part that is one
pub part_again : (n : ℕ) (parts : ℕ → List ℕ) (g : ℕ)
    → (parts g ≡ []) ⊎ ((t : List ℕ) × (sequence_table (part_of (sequences_in n t) g) ≡ parts g))
    → sequence_table (pairs_at n parts g) ≡ parts g
unfolding sequence_table
part_again n parts g (inl e) =
    ap (λ (b : List ℕ). sequence_table (part_of (sequences_in n b) g)) e
    ∙ ap (λ (ps : List Pair). sequence_table (part_of ps g)) (sequences_in-none n)
    ∙ ap sequence_table (part-none g) ∙ sym e
part_again n parts g (inr w) =
    let both = sequences_in-among n w.0 in
    ap (λ (b : List ℕ). sequence_table (part_of (sequences_in n b) g)) (sym w.1)
    ∙ ap sequence_table (own_pairs n (sequences_in n w.0) both.0 both.1 g) ∙ w.1

-- in whichever sense of bad that has no table of pairs in order
pub IsParting-by : (bad : Tables → List ℕ → Bool)
    → ((c : Tables) (ps : List Pair) → AreAmong (glyph_count c) ps → length ps ≤ MAX_PAIRS
    → bad c (sequence_table ps) ≡ false)
    → IsParting bad sequences
unfolding sequences sequence_table
IsParting-by bad good = record {
  frame_good = λ c t h. good c [] tt (omega arith);
  whole_good = λ c frame parts h fit.
      let ps = pairs_of_parts (glyph_count c) parts in
      good c ps (room_rises (glyph_count c) parts fit) (few_pairs ps fit);
  frame_again = λ c t h. refl;
  own_fit = λ c t h.
      let both = sequences_in-among (glyph_count c) t in
      own_room (glyph_count c) (sequences_in (glyph_count c) t) both.0 both.1;
  fewer_fit = λ c frame parts fewer h fit few. fewer_room (glyph_count c) parts fewer few fit;
  frame_is = λ c frame parts h fit. refl;
  part_is = λ c frame parts g h fit low part.
      let n = glyph_count c in
      ap sequence_table (part_in_whole n parts g fit low)
      ∙ part_again n parts g (elim part [ inl e ↦ inl e | inr w ↦ inr (w.0, w.2) ]);
}

pub good_pairs : (n : ℕ) (ps : List Pair) → AreAmong n ps → length ps ≤ MAX_PAIRS
    → is_bad_sequences (sequence_table ps) n ≡ false
unfolding is_bad_sequences
good_pairs n ps r few =
    ap not ((bytes_eq-Decides (sequence_table (sequences_in n (sequence_table ps))) (sequence_table ps)).1
    (ap sequence_table (sequences_in-table n ps r few)))

-- and what is not bad is the table of its pairs
pub pairs_table : (n : ℕ) (t : List ℕ) → is_bad_sequences t n ≡ false → sequence_table (sequences_in n t) ≡ t
unfolding is_bad_sequences
pairs_table n t h = (bytes_eq-Decides (sequence_table (sequences_in n t)) t).0 (not-false _ h)

pub good_none : (n : ℕ) → is_bad_sequences [] n ≡ false
unfolding sequence_table
good_none n = good_pairs n [] tt (omega arith)

pub IsParting-sequences : IsParting (is_bad_at SEQUENCES) sequences
IsParting-sequences = IsParting-by (is_bad_at SEQUENCES) (λ c ps r few. good_pairs (glyph_count c) ps r few)
