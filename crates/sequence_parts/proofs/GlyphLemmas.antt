-- The glyph that pairs give a selector and code.
use Rattle.std.proofs.Common.{◌≡◌, ℕ, suc, ◌+◌, ◌*◌, ◌<◌, Bool, true, false, cond, eqb, List, [], ◌∷◌, find, Option}
use Rattle.std.proofs.Common.{None, Some, refl, ap, sym, ◌∙◌, arith, inl, inr}
use Rattle.std.specs.List.{cons_option, filter_map}
use Rattle.std.specs.Option.{option_and_then, option_map, option_map_or}
use Rattle.std.proofs.lemmas.Bool.{and_parts, cases_Bool, eqb-true}
use Rattle.codes.specs.declared.code_points.TheConstants.{CODES}
use Rattle.variation_sequences.specs.Encoding.{subtable_of}
use Rattle.variation_sequences.specs.Pairs.{pair_of, sequence_pairs}
use Rattle.variation_sequences.specs.Sequences.{entries_of, is_of, sequence_of, variant_glyph, variant_of}
use Rattle.variation_sequences.specs.Strict.{is_strict}
use Rattle.variation_sequences.specs.declared.variant.Entry.{Entry}
use Rattle.variation_sequences.specs.declared.variant.Pair.{Pair}
use Rattle.variation_sequences.proofs.FoundLemmas.{found_is_listed}
use Rattle.font_theory.specs.Content.{glyph_count}
use Rattle.sequence_parts.specs.Laws.{FontHasItsGlyphs, TableHasItsGlyphs}
use Rattle.font_theory.specs.OrderedPairs.{glyph_in, is_pair_of, place_of}
use Rattle.font_theory.specs.SequenceTable.{sequences_in}
use Rattle.sequence_parts.proofs.ClashLemmas.{at_place}
use Rattle.font_theory.proofs.SequenceEntryLemmas.{HasCodes, entries_rise, entry_place}
use Rattle.font_theory.proofs.SequenceFontLemmas.{font_read, strict_subtable, IsStrictIfSome}
use Rattle.font_theory.proofs.OrderLemmas.{Rises, rises_filter_map}
use Rattle.font_theory.proofs.SequenceTableLemmas.{IsPairAmong, MapsBelow, is_read-strict, pair_kept}

-- none of pairs above a place is there
none_above : (n v c low : ℕ) (ps : List Pair) → CODES * v + c < low → Rises (IsPairAmong n) place_of low ps
    → find (is_pair_of v c) ps ≡ None
none_above n v c low [] h r = refl
none_above n v c low (p ∷ ps) h r = elim (cases_Bool (is_pair_of v c p)) [
  | inl t ↦ absurd (omega (arith, at_place v c p t, h, r.1))
  | inr f ↦
      ap (λ b. cond b (Some p) (find (is_pair_of v c) ps)) f
      ∙ none_above n v c (suc (place_of p)) ps (omega (arith, h, r.1)) r.2
]

abbrev own : Entry → ℕ → Pair
own e g = record { selector = e.selector; code = e.code; glyph = g }

-- an entry, in front of pairs
passed : (v c : ℕ) (e : Entry) (g : ℕ) (b : Bool) (ps : List Pair) → is_of v c e ≡ false
    → find (is_pair_of v c) (cons_option (cond b None (Some (own e g))) ps) ≡ find (is_pair_of v c) ps
passed v c e g true ps f = refl
passed v c e g false ps f = ap (λ b. cond b (Some (own e g)) (find (is_pair_of v c) ps)) f

here : (v c : ℕ) (e : Entry) (g : ℕ) (b : Bool) (ps : List Pair) → (b ≡ true → g ≡ 0) → is_of v c e ≡ true
    → find (is_pair_of v c) ps ≡ None → glyph_in (cons_option (cond b None (Some (own e g))) ps) v c ≡ g
here v c e g true ps none t f = ap (λ o. option_map_or (λ (p : Pair). p.glyph) o 0) f ∙ sym (none refl)
here v c e g false ps none t f =
    ap (λ b. option_map_or (λ (p : Pair). p.glyph) (cond b (Some (own e g)) (find (is_pair_of v c) ps)) 0) t

module _ (n : ℕ) (of_code : ℕ → ℕ) (below : MapsBelow n of_code) where
  abbrev pairs : List Entry → List Pair
  pairs es = filter_map (λ e. pair_of n (of_code e.code) e) es

  abbrev found : ℕ → ℕ → List Entry → Option Entry
  found v c es = find (is_of v c) es

  glyph_of_entries : (v c low : ℕ) (es : List Entry) → Rises HasCodes entry_place low es
      → glyph_in (pairs es) v c ≡ variant_glyph n (of_code c) (option_map (λ e. e.variant) (found v c es))
  glyph_of_entries v c low [] r = refl
  glyph_of_entries v c low (e ∷ es) r =
      let g = variant_glyph n (of_code e.code) (Some e.variant) in
      elim (cases_Bool (is_of v c e)) [
        | inl t ↦
            let both = and_parts (eqb e.selector v) (eqb e.code c) t in
            let place : CODES * v + c < suc (entry_place e) =
            omega (arith, eqb-true e.selector v both.0, eqb-true e.code c both.1) in
            let rest =
            rises_filter_map HasCodes (IsPairAmong n) entry_place place_of (λ d. pair_of n (of_code d.code) d)
            (pair_kept n of_code below) (suc (entry_place e)) es r.2 in
            here v c e g (eqb g 0) (pairs es) (eqb-true g 0) t
            (none_above n v c (suc (entry_place e)) (pairs es) place rest)
            ∙ ap (λ (k : ℕ). variant_glyph n (of_code k) (Some e.variant)) (eqb-true e.code c both.1)
            ∙ ap (λ b. variant_glyph n (of_code c) (option_map (λ (d : Entry). d.variant)
            (cond b (Some e) (found v c es)))) (sym t)
        | inr f ↦
            ap (λ o. option_map_or (λ (p : Pair). p.glyph) o 0) (passed v c e g (eqb g 0) (pairs es) f)
            ∙ glyph_of_entries v c (suc (entry_place e)) es r.2
            ∙ ap (λ b. variant_glyph n (of_code c) (option_map (λ (d : Entry). d.variant)
            (cond b (Some e) (found v c es)))) (sym f)
      ]

  glyph_of_subtable : (v c : ℕ) (s : List ℕ) → is_strict s ≡ true
      → glyph_in (pairs (entries_of s)) v c ≡ variant_glyph n (of_code c) (variant_of s v c)
  glyph_of_subtable v c s t =
      glyph_of_entries v c 0 (entries_of s) (entries_rise s t)
      ∙ ap (variant_glyph n (of_code c)) (sym (found_is_listed s v c t))

  glyph_of_some : (v c : ℕ) (o : Option (List ℕ)) → IsStrictIfSome o
      → glyph_in (option_map_or (λ s. pairs (entries_of s)) o []) v c
      ≡ variant_glyph n (of_code c) (option_and_then (λ s. variant_of s v c) o)
  glyph_of_some v c None strict = refl
  glyph_of_some v c (Some s) strict = glyph_of_subtable v c s (strict s refl)

  glyph_of_font : (cmap : List ℕ) (v c : ℕ)
      → glyph_in (sequence_pairs cmap of_code n) v c ≡ sequence_of cmap of_code n v c
  unfolding sequence_pairs sequence_of
  glyph_of_font cmap v c = glyph_of_some v c (subtable_of cmap) (strict_subtable cmap)

pub table_glyphs : TableHasItsGlyphs
unfolding sequences_in
table_glyphs n t v c read =
    ap (λ b. glyph_in (cond b (filter_map (pair_of n 0) (entries_of t)) []) v c) read
    ∙ glyph_of_subtable n (λ _. 0) (λ k some. absurd (omega (arith, some))) v c t (is_read-strict t read)

pub font_glyphs : FontHasItsGlyphs
font_glyphs t cmap of_code below v c =
    let n = glyph_count t in
    ap (λ (ps : List Pair). glyph_in ps v c) (font_read n of_code cmap below)
    ∙ glyph_of_font n of_code (λ k some. below k) cmap v c
