-- What is read of a table of pairs.
use Rattle.std.proofs.Common.{◌≡◌, ℕ, suc, ◌+◌, ◌*◌, ◌<◌, ◌≤◌, Bool, true, false, cond, eqb, ltb, ◌⊎◌, List, [], ◌∷◌}
use Rattle.std.proofs.Common.{length, map, None, Some, refl, ap, subst, sym, ◌∙◌, arith, inl, inr}
use Rattle.std.specs.List.{cons_option, filter_map}
use Rattle.std.specs.Option.{is_some, unwrap_or}
use Rattle.std.proofs.lemmas.Bool.{and_from, and_parts, both_ways, cases_Bool, cases_lt, cond-false, cond-true, eq-eqb}
use Rattle.std.proofs.lemmas.Bool.{eqb-false, le-ltb, lt-ltb, ne_eqb}
use Rattle.std.proofs.lemmas.List.{append-nil}
use Rattle.sfnt_bytes.specs.Number.{u32_at}
use Rattle.codes.specs.declared.code_points.TheConstants.{CODES}
use Rattle.variation_sequences.specs.Encoding.{is_whole, whole_subtable}
use Rattle.variation_sequences.specs.Pairs.{pair_of}
use Rattle.variation_sequences.specs.Sequences.{entries_of, variant_glyph}
use Rattle.variation_sequences.specs.Strict.{is_strict}
use Rattle.variation_sequences.specs.Written.{AreOrdered, IsNotBelow, entry_of, subtable_bytes, subtable_size}
use Rattle.variation_sequences.specs.declared.variant.Entry.{Entry}
use Rattle.variation_sequences.specs.declared.variant.Pair.{Pair}
use Rattle.variation_sequences.specs.declared.variant.Variant.{Variant}
use Rattle.variation_sequences.specs.declared.variant.Variant.TheVariants.{Glyph, Unchanged}
use Rattle.variation_sequences.proofs.CountLemmas.{few_entries}
use Rattle.variation_sequences.proofs.GroupLemmas.{all_grouped}
use Rattle.variation_sequences.proofs.ReadBackLemmas.{read_back}
use Rattle.variation_sequences.proofs.WrittenLemmas.{length-made, size_read}
use Rattle.font_theory.specs.OrderedPairs.{place_of}
use Rattle.font_theory.specs.SequenceTable.{MAX_PAIRS, is_read, sequences_in, sequence_table}
use Rattle.font_theory.proofs.SequenceEntryLemmas.{HasCodes, entries_rise, entry_place}
use Rattle.font_theory.proofs.OrderLemmas.{Rises, filter_map_few, rises_filter_map, rises_from}

-- a pair among n glyphs
pub record IsPairAmong (n : ℕ) (p : Pair) : Type 0 where
  pub selector : p.selector < CODES
  pub code : p.code < CODES
  pub some : 0 < p.glyph
  pub low : p.glyph < n

-- pairs in order among n glyphs
abbrev pub AreAmong : ℕ → List Pair → Type 0
AreAmong n ps = Rises (IsPairAmong n) place_of 0 ps

-- the map of a font to n glyphs
abbrev pub MapsBelow : ℕ → (ℕ → ℕ) → Type 0
MapsBelow n of_code = (c : ℕ) → 0 < of_code c → of_code c < n

glyph_low : (n of_code : ℕ) (x : Variant) → (0 < of_code → of_code < n) → 0 < variant_glyph n of_code (Some x)
    → variant_glyph n of_code (Some x) < n
glyph_low n of_code Unchanged h some = h some
glyph_low n of_code (Glyph g) h some = elim (cases_lt g n) [
  | inl below ↦ subst (λ (k : ℕ). k < n) (sym (cond-true (ltb g n) g 0 (lt-ltb g n below))) below
  | inr above ↦
      let none : cond (ltb g n) g 0 ≡ 0 = cond-false (ltb g n) g 0 (le-ltb g n above) in
      absurd (omega (arith, none, some))
]

pair_by_test : (n : ℕ) (of_code : ℕ → ℕ) → MapsBelow n of_code → (e : Entry) → HasCodes e → (p : Pair) (g : ℕ)
    → g ≡ variant_glyph n (of_code e.code) (Some e.variant) → (eqb g 0 ≡ true) ⊎ (eqb g 0 ≡ false)
    → cond (eqb g 0) None (Some (record { selector = e.selector; code = e.code; glyph = g })) ≡ Some p
    → IsPairAmong n p × (place_of p ≡ entry_place e)
unfolding place_of
pair_by_test n of_code below e has p g which (inl t) is =
    absurd (both_ways true (ap is_some (sym is) ∙ ap is_some (cond-true (eqb g 0) None (Some _) t)) refl)
pair_by_test n of_code below e has p g which (inr f) is =
    let own : Pair = record { selector = e.selector; code = e.code; glyph = g } in
    let same : Some own ≡ Some p = sym (cond-false (eqb g 0) None (Some own) f) ∙ is in
    let some : 0 < g = omega (arith, eqb-false g 0 f) in
    let low : g < n =
    subst (λ (k : ℕ). k < n) (sym which)
    (glyph_low n (of_code e.code) e.variant (below e.code) (subst (λ (k : ℕ). 0 < k) which some)) in
    subst (λ q. IsPairAmong n q × (place_of q ≡ entry_place e)) (ap (λ o. unwrap_or o p) same)
    (record { selector = has.0; code = has.1; some = some; low = low }, refl)

pub pair_kept : (n : ℕ) (of_code : ℕ → ℕ) → MapsBelow n of_code → (e : Entry) → HasCodes e → (p : Pair)
    → pair_of n (of_code e.code) e ≡ Some p → IsPairAmong n p × (place_of p ≡ entry_place e)
pair_kept n of_code below e has p is =
    let g = variant_glyph n (of_code e.code) (Some e.variant) in
    pair_by_test n of_code below e has p g refl (cases_Bool (eqb g 0)) is

-- the pairs of a subtable that is read
pub pairs_rise : (n : ℕ) (of_code : ℕ → ℕ) → MapsBelow n of_code → (s : List ℕ) → is_strict s ≡ true
    → AreAmong n (filter_map (λ e. pair_of n (of_code e.code) e) (entries_of s))
pairs_rise n of_code below s t =
    rises_filter_map HasCodes (IsPairAmong n) entry_place place_of (λ e. pair_of n (of_code e.code) e)
    (pair_kept n of_code below) 0 (entries_of s) (entries_rise s t)

pub pairs_few : (n : ℕ) (of_code : ℕ → ℕ) (s : List ℕ) → is_strict s ≡ true
    → length (filter_map (λ e. pair_of n (of_code e.code) e) (entries_of s)) ≤ MAX_PAIRS
unfolding MAX_PAIRS
pairs_few n of_code s t =
    omega (arith, filter_map_few (λ e. pair_of n (of_code e.code) e) (entries_of s), few_entries s t)

-- those in a table
in_table : (n : ℕ) (t : List ℕ) (b : Bool) → (b ≡ true → is_strict t ≡ true)
    → AreAmong n (cond b (filter_map (pair_of n 0) (entries_of t)) [])
    × (length (cond b (filter_map (pair_of n 0) (entries_of t)) []) ≤ MAX_PAIRS)
in_table n t true strict =
    let read = strict refl in
    (pairs_rise n (λ _. 0) (λ c some. absurd (omega (arith, some))) t read, pairs_few n (λ _. 0) t read)
in_table n t false strict = (tt, omega arith)

pub is_read-strict : (t : List ℕ) → is_read t ≡ true → is_strict t ≡ true
unfolding is_read
is_read-strict t r = (and_parts _ _ r).1

pub sequences_in-among : (n : ℕ) (t : List ℕ) → AreAmong n (sequences_in n t) × (length (sequences_in n t) ≤ MAX_PAIRS)
unfolding sequences_in
sequences_in-among n t = in_table n t (is_read t) (is_read-strict t)

-- pairs that are written are in order
pub ordered : (n v c : ℕ) (ps : List Pair) → c ≤ CODES → Rises (IsPairAmong n) place_of (CODES * v + c) ps
    → AreOrdered v c ps
unfolding place_of
ordered n v c [] h r = tt
ordered n v c (p ∷ ps) h r =
    let rest : Rises (IsPairAmong n) place_of (CODES * p.selector + suc p.code) ps =
    rises_from (IsPairAmong n) place_of _ (suc (place_of p)) ps (omega arith) r.2 in
    (r.0.selector, r.0.code, above, ordered n p.selector (suc p.code) ps (omega (arith, r.0.code)) rest)
  where
    above : IsNotBelow v c p
    above = elim (cases_lt v p.selector) [
      | inl below ↦ inl below
      | inr from ↦
          let code : p.code < CODES = r.0.code in
          let place : CODES * v + c ≤ CODES * p.selector + p.code = r.1 in
          let same : v ≡ p.selector = omega (arith, from, code, place) in
          inr (same, omega (arith, same, place))
    ]

-- a table of pairs is read back, whatever codes map to
pair_back : (n of_code : ℕ) (p : Pair) → IsPairAmong n p → pair_of n of_code (entry_of p) ≡ Some p
pair_back n of_code p is =
    let glyph : cond (ltb p.glyph n) p.glyph 0 ≡ p.glyph =
    cond-true (ltb p.glyph n) p.glyph 0 (lt-ltb p.glyph n is.low) in
    ap (λ (g : ℕ). cond (eqb g 0) None (Some (record { selector = p.selector; code = p.code; glyph = g }))) glyph
    ∙ cond-false (eqb p.glyph 0) None (Some p) (ne_eqb p.glyph 0 (λ e. omega (arith, e, is.some)))

pub pairs_back : (n : ℕ) (of_code : ℕ → ℕ) (low : ℕ) (ps : List Pair) → Rises (IsPairAmong n) place_of low ps
    → filter_map (λ e. pair_of n (of_code e.code) e) (map entry_of ps) ≡ ps
pairs_back n of_code low [] r = refl
pairs_back n of_code low (p ∷ ps) r =
    ap (λ o. cons_option o (filter_map (λ e. pair_of n (of_code e.code) e) (map entry_of ps)))
    (pair_back n (of_code p.code) p r.0)
    ∙ ap (λ (qs : List Pair). p ∷ qs) (pairs_back n of_code (suc (place_of p)) ps r.2)

whole_is : (b : List ℕ) → whole_subtable b ≡ Some b → is_whole b ≡ true
unfolding whole_subtable
whole_is b e = elim (cases_Bool (is_whole b)) [
  | inl t ↦ t
  | inr f ↦ absurd (both_ways true (ap is_some (sym e ∙ cond-false (is_whole b) _ None f)) refl)
]

is_read-written : (n : ℕ) (ps : List Pair) → AreAmong n ps → length ps ≤ MAX_PAIRS → is_read (subtable_bytes ps) ≡ true
unfolding is_read MAX_PAIRS
is_read-written n ps r few =
    let back = read_back ps (ordered n 0 0 ps (omega arith) r) few in
    let b : List ℕ = subtable_bytes ps in
    let size : length b ≡ subtable_size ps = length-made ps (ap (λ (qs : List Pair). length qs) (all_grouped ps)) in
    let whole : whole_subtable b ≡ Some b = ap whole_subtable (sym (append-nil b)) ∙ back.whole [] in
    let end = eq-eqb (u32_at b 2) (length b) (size_read ps ∙ sym size) in
    and_from _ _ (and_from _ _ (whole_is b whole) end) back.strict

read_written : (n : ℕ) (ps : List Pair) → AreAmong n ps → length ps ≤ MAX_PAIRS
    → sequences_in n (subtable_bytes ps) ≡ ps
unfolding sequences_in MAX_PAIRS
read_written n ps r few =
    let back = read_back ps (ordered n 0 0 ps (omega arith) r) few in
    cond-true (is_read (subtable_bytes ps)) _ [] (is_read-written n ps r few)
    ∙ ap (filter_map (pair_of n 0)) back.entries ∙ pairs_back n (λ _. 0) 0 ps r

pub sequences_in-none : (n : ℕ) → sequences_in n [] ≡ []
unfolding sequences_in is_read
sequences_in-none n = refl

pub sequences_in-table : (n : ℕ) (ps : List Pair) → AreAmong n ps → length ps ≤ MAX_PAIRS
    → sequences_in n (sequence_table ps) ≡ ps
unfolding sequence_table
sequences_in-table n [] r few = sequences_in-none n
sequences_in-table n (p ∷ ps) r few = read_written n (p ∷ ps) r few
