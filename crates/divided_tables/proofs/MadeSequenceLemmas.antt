-- The tables that are made of the pairs of one table, or of two.
use Rattle.std.proofs.Common.{◌≡◌, ℕ, zero, suc, ◌+◌, ◌<◌, ◌≤◌, ◌^◌, Bool, true, false, cond, eqb, List, [], ◌∷◌}
use Rattle.std.proofs.Common.{length, MatchOption, IfOk, Option, None, Some, is_some, refl, ap, subst, sym, ◌∙◌, arith}
use Rattle.std.proofs.Common.{inl, inr, unwrap_or}
use Rattle.std.specs.List.{filter, filter_map, range_with_len}
use Rattle.std.specs.Option.{option_map, option_map_or}
use Rattle.std.specs.declared.result.Result.{Result}
use Rattle.std.proofs.lemmas.List.Elements.{All-cons}
use Rattle.std.proofs.lemmas.Bool.{both_ways}
use Rattle.variation_sequences.specs.Encoding.{subtable_of}
use Rattle.variation_sequences.specs.Pairs.{pair_of, part_of, sequence_pairs}
use Rattle.variation_sequences.specs.Sequences.{entries_of}
use Rattle.variation_sequences.specs.Written.{HaveSmallNumbers, grouped, subtable_bytes, with_pair}
use Rattle.variation_sequences.specs.declared.variant.Pair.{Pair}
use Rattle.variation_sequences.proofs.GroupLemmas.{all_grouped}
use Rattle.variation_sequences.proofs.WrittenLemmas.{length-made}
use Rattle.font_theory.specs.Content.{Content, glyph_count, table_in_slot}
use Rattle.font_theory.specs.Kinds.{reduced}
use Rattle.font_theory.specs.Parting.{Tables, context, frames}
use Rattle.font_theory.proofs.HeldLemmas.{cases_option}
use Rattle.font_theory.proofs.PartLemmas.{parts_of-at, parts_of-none}
use Rattle.sfnt_bytes.specs.declared.directory.TheConstants.{MAX_FILE}
use Rattle.divided_tables.specs.PartedTable.{AreJoinable, ArePartsIn, IsRoomOf, IsUnionOf, alone, made_or_laid}
use Rattle.divided_tables.proofs.MadeLemmas.{ok_as}
use Rattle.font_theory.specs.SequenceTable.{MAX_PAIRS, pairs_among, pairs_at, pairs_of_parts, sequence_table, have_room}
use Rattle.font_theory.specs.Parted.{sequences}
use Rattle.font_theory.specs.SequenceTable.{is_bad_sequences, sequences_in}
use Rattle.font_theory.specs.OrderedPairs.{merged, place_of}
use Rattle.font_theory.proofs.SequenceFontLemmas.{IsStrictIfSome, strict_subtable}
use Rattle.font_theory.proofs.OrderLemmas.{Rises, filter_few}
use Rattle.font_theory.proofs.SequencePartLemmas.{few_pairs, own_pairs, pairs_table, part-none, part_in_whole}
use Rattle.font_theory.proofs.SequenceTableLemmas.{AreAmong, IsPairAmong, MapsBelow, pairs_few, pairs_rise}
use Rattle.font_theory.proofs.SequenceTableLemmas.{sequences_in-among, sequences_in-none}
use Rattle.divided_tables.specs.SequenceIndex.{AreIndexed, inserted, is_of, order_of, together, united_pairs}
use Rattle.divided_tables.specs.OpenSequences.{AreSequencesOf, OpenSequences}
use Rattle.divided_tables.specs.OpenSequences.{opened, parts_in}
use Rattle.divided_tables.proofs.SequenceAscentLemmas.{Ascends, ascends_any, ascends_filter}
use Rattle.divided_tables.proofs.SequenceKeyLemmas.{among}
use Rattle.divided_tables.proofs.SequenceNextLemmas.{in_front}
use Rattle.divided_tables.proofs.SequenceUnionLemmas.{ascends_together, kept_of_table, rises_ascend, union_is}
use Rattle.divided_tables.proofs.SequenceWholeLemmas.{few_open}

-- the table of no pairs, and of some
pub table_none : (ps : List Pair) → length ps ≡ 0 → [] ≡ sequence_table ps
unfolding sequence_table
table_none [] e = refl
table_none (p ∷ ps) e = absurd (omega (arith, e))

pub table_some : (ps : List Pair) → 0 < length ps → subtable_bytes ps ≡ sequence_table ps
unfolding sequence_table
table_some [] h = absurd (omega (arith, h))
table_some (p ∷ ps) h = refl

-- its size
few_with : (p : Pair) (groups : List (List Pair)) → length (with_pair p groups) ≤ suc (length groups)
few_with p [] = omega arith
few_with p ([] ∷ groups) = omega arith
few_with p ((q ∷ qs) ∷ groups) = by_test (eqb p.selector q.selector)
  where
    by_test : (b : Bool) → length (cond b ((p ∷ q ∷ qs) ∷ groups) ((p ∷ []) ∷ (q ∷ qs) ∷ groups))
        ≤ suc (length ((q ∷ qs) ∷ groups))
    by_test true = omega arith
    by_test false = omega arith

few_groups : (ps : List Pair) → length (grouped ps) ≤ length ps
few_groups [] = omega arith
few_groups (p ∷ ps) = omega (arith, few_with p (grouped ps), few_groups ps)

pub small_table : (ps : List Pair) → length ps ≤ 1048576 → length (subtable_bytes ps) ≤ MAX_FILE
small_table ps few =
    omega (arith, few, few_groups ps, length-made ps (ap (λ (qs : List Pair). length qs) (all_grouped ps)))

-- and that of a table that is good
short_pairs : (ps : List Pair) → length ps ≤ MAX_PAIRS → length (sequence_table ps) ≤ MAX_FILE
unfolding sequence_table MAX_PAIRS
short_pairs [] few = omega arith
short_pairs (p ∷ ps) few = small_table (p ∷ ps) few

pub good_small : (n : ℕ) (t : List ℕ) → is_bad_sequences t n ≡ false → length t ≤ MAX_FILE
good_small n t good = subst (λ (u : List ℕ). length u ≤ MAX_FILE) (pairs_table n t good)
    (short_pairs (sequences_in n t) (sequences_in-among n t).1)

-- pairs of a table have small numbers
abbrev IsSmall : Pair → Type 0
IsSmall p = (p.selector < 2 ^ 24) × (p.code < 2 ^ 24)

small_pairs : (n low : ℕ) (ps : List Pair) → Ascends (IsPairAmong n) order_of low ps → Ascends IsSmall order_of low ps
small_pairs n low [] s = tt
small_pairs n low (p ∷ ps) s =
    ((omega (arith, s.0.selector), omega (arith, s.0.code)), s.1, small_pairs n (order_of p) ps s.2)

all_small : (low : ℕ) (ps : List Pair) → Ascends IsSmall order_of low ps → HaveSmallNumbers ps
all_small low [] s = λ k d h. absurd (omega (arith, h))
all_small low (p ∷ ps) s = All-cons IsSmall p ps s.0 (all_small (order_of p) ps s.2)

open_small : (o : OpenSequences) (keys : List ℕ) → AreIndexed o keys → Ascends IsSmall order_of 0 o.pairs
open_small o keys is =
    small_pairs o.count 0 o.pairs (rises_ascend o.count is.small 0 o.pairs (among o keys is))

pub united_small : (c : ℕ → Bool) (ps qs : List Pair) → Ascends IsSmall order_of 0 ps → Ascends IsSmall order_of 0 qs
    → HaveSmallNumbers (united_pairs c ps qs)
unfolding united_pairs
united_small c ps qs r s =
    all_small 0 (together (filter (is_of c true) ps) (filter (is_of c false) qs))
    (ascends_together IsSmall 0 (filter (is_of c true) ps) (filter (is_of c false) qs)
    (ascends_filter IsSmall order_of (is_of c true) 0 ps r) (ascends_filter IsSmall order_of (is_of c false) 0 qs s))

pub small_of_one : (c : ℕ → Bool) (o : OpenSequences) (keys : List ℕ) → AreIndexed o keys
    → HaveSmallNumbers (united_pairs c o.pairs [])
small_of_one c o keys is = united_small c o.pairs [] (open_small o keys is) tt

pub small_of_two : (c : ℕ → Bool) (o w : OpenSequences) (keys others : List ℕ) → AreIndexed o keys
    → AreIndexed w others → HaveSmallNumbers (united_pairs c o.pairs w.pairs)
small_of_two c o w keys others a b = united_small c o.pairs w.pairs (open_small o keys a) (open_small w others b)

-- frames
pub frame_none : (c : Tables) (slot : ℕ) → c slot ≡ None → None ≡ frames (alone sequences) c slot
unfolding frames sequences
frame_none c slot e = sym (ap (option_map (λ (t : List ℕ). [])) e)

pub frame_some : (c : Tables) (slot : ℕ) (t b : List ℕ) → c slot ≡ Some t → b ≡ []
    → Some b ≡ frames (alone sequences) c slot
unfolding frames sequences
frame_some c slot t b e h = ap Some h ∙ sym (ap (option_map (λ (x : List ℕ). [])) e)

-- the pairs of one table alone
only_first : (low : ℕ) (ps : List Pair) → Ascends (λ _. Unit {0}) order_of low ps → together ps [] ≡ ps
only_first low [] s = refl
only_first low (p ∷ ps) s = ap (inserted p) (only_first (order_of p) ps s.2) ∙ in_front p ps s.2

count_context : (c : Tables) → glyph_count (context c) ≡ glyph_count c
unfolding context glyph_count
count_context c = refl

-- the pairs that a cut keeps of a table
pub kept_pairs : (keep : ℕ → Bool) (o : OpenSequences) (keys : List ℕ) → AreIndexed o keys
    → united_pairs keep o.pairs [] ≡ filter (λ p. keep p.glyph) o.pairs
unfolding united_pairs
kept_pairs keep o keys is =
    only_first 0 (filter (is_of keep true) o.pairs)
    (ascends_filter (λ _. Unit {0}) order_of (is_of keep true) 0 o.pairs
    (ascends_any (IsPairAmong o.count) order_of 0 o.pairs
    (rises_ascend o.count is.small 0 o.pairs (among o keys is))))

in_slot : (slot n : ℕ) (c : Tables) (o : OpenSequences) (t : List ℕ) → AreSequencesOf slot c o → o.count ≡ n
    → c slot ≡ Some t → o.pairs ≡ sequences_in n t
in_slot slot n c o t is count e = is.pairs_are ∙ (λ i. sequences_in (count i) (unwrap_or (e i) []))

kept_table : (K : Content) (slot : ℕ) (o : OpenSequences) (t : List ℕ) → AreSequencesOf slot K.copied o
    → K.copied slot ≡ Some t
    → Some (sequence_table (filter (λ p. is_some (K.outline p.glyph)) o.pairs))
    ≡ (reduced (alone sequences) K).copied slot
unfolding reduced sequences
kept_table K slot o t is e =
    let n = glyph_count (context K.copied) in
    let pairs = in_slot slot n K.copied o t is (is.count_is ∙ sym (count_context K.copied)) e in
    ap (λ (ps : List Pair). Some (sequence_table ps))
    (ap (filter (λ p. is_some (K.outline p.glyph))) pairs ∙ sym (kept_of_table n t (λ g. is_some (K.outline g))))
    ∙ sym (ap (option_map _) e)

-- what a call gives, whose pairs are few
abbrev pub MakesTableOf : {X E : Type 0} → (X → List ℕ) → List Pair → Result (Option X) E → Type 0
MakesTableOf bytes ps r =
    IfOk r (λ v. MatchOption v (MAX_PAIRS < length ps) (λ x. bytes x ≡ sequence_table ps))

pub kept_is : (K : Content) (slot : ℕ) (o : OpenSequences) (keys : List ℕ) → AreIndexed o keys
    → AreSequencesOf slot K.copied o → (t : List ℕ) → K.copied slot ≡ Some t
    → {X E : Type 0} (bytes : X → List ℕ) (r : Result (Option X) E)
    → MakesTableOf bytes (united_pairs (λ g. is_some (K.outline g)) o.pairs []) r
    → IfOk r (λ v. option_map bytes v ≡ (reduced (alone sequences) K).copied slot)
unfolding MAX_PAIRS
kept_is K slot o keys is own t e bytes r made =
    let keep : ℕ → Bool = λ g. is_some (K.outline g) in
    let pairs = kept_pairs keep o keys is in
    ok_as r (λ v h. by_case v h pairs (kept_table K slot o t own e)
    (omega (
      arith,
      ap (λ (ps : List Pair). length ps) pairs,
      filter_few (λ p. keep p.glyph) o.pairs,
      few_open o keys is,
    ))) made
  where
    by_case : (v : Option _)
        → MatchOption v (MAX_PAIRS < length (united_pairs (λ g. is_some (K.outline g)) o.pairs []))
        (λ x. bytes x ≡ sequence_table (united_pairs (λ g. is_some (K.outline g)) o.pairs []))
        → united_pairs (λ g. is_some (K.outline g)) o.pairs [] ≡ filter (λ p. is_some (K.outline p.glyph)) o.pairs
        → Some (sequence_table (filter (λ p. is_some (K.outline p.glyph)) o.pairs))
        ≡ (reduced (alone sequences) K).copied slot
        → length (united_pairs (λ g. is_some (K.outline g)) o.pairs []) ≤ 1048576
        → option_map bytes v ≡ (reduced (alone sequences) K).copied slot
    by_case None h pairs table few = absurd (omega (arith, h, few))
    by_case (Some x) h pairs table few = ap Some (h ∙ ap sequence_table pairs) ∙ table

pub kept_none : (K : Content) (slot : ℕ) → K.copied slot ≡ None
    → None ≡ (reduced (alone sequences) K).copied slot
unfolding reduced
kept_none K slot e = sym (ap (option_map _) e)

-- the pairs of families with the same pairs
among_same : (n : ℕ) (A B : ℕ → List ℕ) (a m : ℕ)
    → ((g : ℕ) → a ≤ g → g < a + m → pairs_at n A g ≡ pairs_at n B g)
    → pairs_among n A (range_with_len a m) ≡ pairs_among n B (range_with_len a m)
among_same n A B a zero h = refl
among_same n A B a (suc m) h =
    let first = h a (omega arith) (omega arith) in
    let rest = among_same n A B (a + 1) m (λ g low high. h g (omega (arith, low)) (omega (arith, high))) in
    λ i. merged (first i) (rest i)

module _ (C E : Content) (slot : ℕ) (o w : OpenSequences) (keys others : List ℕ) (one : AreIndexed o keys)
    (other : AreIndexed w others) (first : AreSequencesOf slot C.copied o) (second : AreSequencesOf slot E.copied w)
    (c : Tables) (P Q : ℕ → List ℕ) (join : AreJoinable sequences slot C E c P Q)
    (frame : List ℕ) (here : c slot ≡ Some frame) where
  abbrev n : ℕ
  n = glyph_count (context c)

  abbrev keep : ℕ → Bool
  keep g = is_some (C.outline g)

  abbrev R : ℕ → List ℕ
  R g = cond (keep g) (P g) (Q g)

  abbrev TP : List ℕ
  TP = sequence_table (pairs_of_parts n P)

  abbrev TQ : List ℕ
  TQ = sequence_table (pairs_of_parts n Q)

  own_count : o.count ≡ n
  own_count = first.count_is ∙ sym (count_context C.copied) ∙ ap glyph_count join.context_first

  other_count : w.count ≡ n
  other_count = second.count_is ∙ sym (count_context E.copied) ∙ ap glyph_count join.context_second

  own_table : C.copied slot ≡ Some TP
  unfolding sequences
  own_table = join.first ∙ ap (option_map _) here

  other_table : E.copied slot ≡ Some TQ
  unfolding sequences
  other_table = join.second ∙ ap (option_map _) here

  part_same : (g : ℕ) → g < n
      → pairs_at n (λ h. cond (keep h) (sequence_table (part_of (sequences_in n TP) h))
      (sequence_table (part_of (sequences_in n TQ) h))) g ≡ pairs_at n R g
  unfolding sequences
  part_same g low =
      let p = sequences_in-among n TP in
      let q = sequences_in-among n TQ in
      by_test (keep g)
      (own_pairs n (sequences_in n TP) p.0 p.1 g ∙ part_in_whole n P g (join.first_fits frame here) low)
      (own_pairs n (sequences_in n TQ) q.0 q.1 g ∙ part_in_whole n Q g (join.second_fits frame here) low)
    where
      by_test : (b : Bool)
          → part_of (sequences_in n (sequence_table (part_of (sequences_in n TP) g))) g ≡ pairs_at n P g
          → part_of (sequences_in n (sequence_table (part_of (sequences_in n TQ) g))) g ≡ pairs_at n Q g
          → part_of (sequences_in n (cond b (sequence_table (part_of (sequences_in n TP) g))
          (sequence_table (part_of (sequences_in n TQ) g)))) g
          ≡ part_of (sequences_in n (cond b (P g) (Q g))) g
      by_test true e f = e
      by_test false e f = f

  pairs_are : united_pairs keep o.pairs w.pairs ≡ pairs_of_parts n R
  unfolding pairs_of_parts
  pairs_are =
      let small = one.small in
      (λ i. united_pairs keep (in_slot slot n C.copied o TP first own_count own_table i)
      (in_slot slot n E.copied w TQ second other_count other_table i))
      ∙ sym (union_is n (omega (arith, small, own_count)) TP TQ keep)
      ∙ among_same n _ R 0 n (λ g low high. part_same g (omega (arith, high)))

  -- whether they have room
  room_is : have_room (united_pairs keep o.pairs w.pairs) ≡ sequences.fits (context c) frame R
  unfolding sequences
  room_is = ap have_room pairs_are

  module _ (fit : sequences.fits (context c) frame R ≡ true) where
    few : length (united_pairs keep o.pairs w.pairs) ≤ MAX_PAIRS
    unfolding sequences
    few =
        let all = few_pairs (pairs_of_parts n R) fit in
        omega (arith, all, ap (λ (ps : List Pair). length ps) pairs_are)

    union_made : {X : Type 0} (bytes : X → List ℕ) (v : Option X)
        → MatchOption v (MAX_PAIRS < length (united_pairs keep o.pairs w.pairs))
        (λ x. bytes x ≡ sequence_table (united_pairs keep o.pairs w.pairs))
        → made_or_laid (option_map bytes v) (C.copied slot) (table_in_slot E.copied slot)
        ≡ option_map (λ f. sequences.whole (context c) f R) (c slot)
    unfolding sequences
    union_made bytes None h = absurd (omega (arith, h, few))
    union_made bytes (Some x) h =
        ap Some (h ∙ ap sequence_table pairs_are) ∙ sym (ap (option_map _) here)

pub united_is : (C E : Content) (slot : ℕ) (o w : OpenSequences) (keys others : List ℕ) → AreIndexed o keys
    → AreIndexed w others → AreSequencesOf slot C.copied o → AreSequencesOf slot E.copied w
    → (t : List ℕ) → C.copied slot ≡ Some t
    → {X Err : Type 0} (bytes : X → List ℕ) (r : Result (Option X) Err)
    → MakesTableOf bytes (united_pairs (λ g. is_some (C.outline g)) o.pairs w.pairs) r
    → IfOk r (λ v. IsUnionOf sequences slot C E (option_map bytes v))
united_is C E slot o w keys others one other first second t e bytes r made =
    ok_as r (λ v h. λ c P Q join fit. elim (cases_option (c slot)) [
      | inl none ↦
          absurd (both_ways true (ap is_some (sym e ∙ join.first ∙ ap (option_map _) none)) refl)
      | inr at ↦
          union_made C E slot o w keys others one other first second c P Q join at.0 at.1 (fit at.0 at.1) bytes v h
    ]) made

-- they have room where the pairs of both do
pub room_of_both : (C E : Content) (slot : ℕ) (o w : OpenSequences) (keys others : List ℕ) → AreIndexed o keys
    → AreIndexed w others → AreSequencesOf slot C.copied o → AreSequencesOf slot E.copied w → (room : Bool)
    → room ≡ have_room (united_pairs (λ g. is_some (C.outline g)) o.pairs w.pairs) → IsRoomOf sequences slot C E room
room_of_both C E slot o w keys others one other first second room is = λ c P Q join frame here.
    is ∙ room_is C E slot o w keys others one other first second c P Q join frame here

-- the pairs of a font
font_case : (n : ℕ) (of_code : ℕ → ℕ) → MapsBelow n of_code → (o : Option (List ℕ)) → IsStrictIfSome o
    → AreAmong n (option_map_or (λ s. filter_map (λ e. pair_of n (of_code e.code) e) (entries_of s)) o [])
    × (length (option_map_or (λ s. filter_map (λ e. pair_of n (of_code e.code) e) (entries_of s)) o []) ≤ MAX_PAIRS)
font_case n of_code below None strict = (tt, omega arith)
font_case n of_code below (Some s) strict =
    (pairs_rise n of_code below s (strict s refl), pairs_few n of_code s (strict s refl))

font_rises : (cmap : List ℕ) (of_code : ℕ → ℕ) (n : ℕ) → MapsBelow n of_code
    → AreAmong n (sequence_pairs cmap of_code n) × (length (sequence_pairs cmap of_code n) ≤ MAX_PAIRS)
unfolding sequence_pairs
font_rises cmap of_code n below = font_case n of_code below (subtable_of cmap) (strict_subtable cmap)

rises_small : (n low : ℕ) (ps : List Pair) → Rises (IsPairAmong n) place_of low ps → HaveSmallNumbers ps
rises_small n low [] r = λ k d h. absurd (omega (arith, h))
rises_small n low (p ∷ ps) r =
    All-cons IsSmall p ps (omega (arith, r.0.selector), omega (arith, r.0.code))
    (rises_small n (suc (place_of p)) ps r.2)

pub font_few : (cmap : List ℕ) (of_code : ℕ → ℕ) (n : ℕ) → MapsBelow n of_code
    → length (sequence_pairs cmap of_code n) ≤ MAX_PAIRS
font_few cmap of_code n below = (font_rises cmap of_code n below).1

pub font_small : (cmap : List ℕ) (of_code : ℕ → ℕ) (n : ℕ) → MapsBelow n of_code
    → HaveSmallNumbers (sequence_pairs cmap of_code n)
font_small cmap of_code n below =
    rises_small n 0 (sequence_pairs cmap of_code n) (font_rises cmap of_code n below).0

-- what a table that is open has of each glyph
pub open_parts : (slot : ℕ) (c : Tables) (o : OpenSequences) → AreSequencesOf slot c o
    → ArePartsIn sequences slot c (parts_in o)
unfolding sequences
open_parts slot c o is = record {
  count_is = is.count_is;
  parts_are = λ g low. elim (cases_option (c slot)) [
    | inl none ↦
        ap (λ (ps : List Pair). sequence_table (part_of ps g))
        (is.pairs_are ∙ ap (λ (t : Option (List ℕ)). sequences_in o.count (unwrap_or t [])) none
        ∙ sequences_in-none o.count)
        ∙ sym (table_none (part_of [] g) (ap (λ (ps : List Pair). length ps) (part-none g)))
        ∙ sym (parts_of-none (alone sequences) c slot g none)
    | inr at ↦
        ap (λ (ps : List Pair). sequence_table (part_of ps g))
        (in_slot slot (glyph_count (context c)) c o at.0 is (is.count_is ∙ sym (count_context c)) at.1)
        ∙ sym (parts_of-at (alone sequences) c slot g at.0 (subst (λ (n : ℕ). g < n) is.count_is low) at.1)
  ];
}

pub opened_is : (slot : ℕ) (c : Tables) (o : OpenSequences) (n : ℕ) (t : List ℕ) → o ≡ opened n t → n ≡ glyph_count c
    → t ≡ table_in_slot c slot → AreSequencesOf slot c o
opened_is slot c o n t e count table = record {
  count_is = ap (λ (w : OpenSequences). w.count) e ∙ count;
  pairs_are = ap (λ (w : OpenSequences). w.pairs) e
      ∙ (λ i. sequences_in (sym (ap (λ (w : OpenSequences). w.count) e) i) (table i));
}
