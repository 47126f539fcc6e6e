-- The first difference of two contents.
use Rattle.std.proofs.Common.{◌≡◌, ℕ, ◌<◌, ◌≤◌, Bool, true, false, cond, not, nat_eq, nat_lt, ◌&&◌, ◌||◌, ◌⊎◌, inl, inr}
use Rattle.std.proofs.Common.{List, [], ◌∷◌, find, get_or, refl, sym, ◌∙◌, ap, subst, arith, Option, Some, None}
use Rattle.std.specs.List.{range_with_len}
use Rattle.std.specs.Option.{option_eq, option_map}
use Rattle.std.specs.Str.{bytes_eq}
use Rattle.std.proofs.lemmas.Bool.{cases_eq, cases_lt, eqb-true, eq-eqb, lt-ltb, ltb-true, ne_eqb, not-false, both_ways}
use Rattle.std.proofs.lemmas.Bool.{cases_Bool, false_from_ne_true, or_parts, or_right}
use Rattle.std.proofs.lemmas.Slice.Eq.{bytes_eq-Decides}
use Rattle.sfnt_bytes.specs.Directory.{slot_at}
use Rattle.sfnt_bytes.specs.Lines.{first_of_lines}
use Rattle.std.proofs.lemmas.List.FromFn.{get_or-range_with_len}
use Rattle.sfnt_bytes.specs.declared.tag.TheConstants.{ALL_SLOTS}
use Rattle.sfnt_bytes.proofs.LineLemmas.{option_map-none}
use Rattle.sfnt_bytes.proofs.PlaceLemmas.{slot_at_low}
use Rattle.codes.proofs.OrderLemmas.{find_none}
use Rattle.font_theory.specs.Content.{CODES, Content, IsClosedContent, everything, glyph_count, is_never_filled}
use Rattle.font_theory.specs.Content.{read_back}
use Rattle.font_theory.specs.declared.kinds.TheConstants.{SEQUENCES}
use Rattle.font_theory.specs.Difference.{are_different, difference, first_slot, is_different_code, is_different_glyph}
use Rattle.font_theory.specs.Difference.{PARTED, are_apart, has_other_part, is_different_table}
use Rattle.font_glyph.proofs.FoundLemmas.{any_decides}
use Rattle.font_theory.specs.Agreement.{Agree}
use Rattle.font_theory.specs.declared.Difference.{Difference}
use Rattle.font_theory.specs.declared.Difference.TheVariants.{AtCode, AtGlyph, AtTable}
use Rattle.font_theory.proofs.HeldLemmas.{cases_option, some-held}
use Rattle.font_theory.proofs.WantedLemmas.{IsKept-below}
use Rattle.font_theory.proofs.LeastLemmas.{find-least, find-none}
use Rattle.font_theory.proofs.TagLemmas.{place_of, place_of-low, slot_at-place_of}

bytes_eq-self : (a : List ℕ) → bytes_eq a a ≡ true
bytes_eq-self a = (bytes_eq-Decides a a).1 refl

option_eq-tells : (o p : Option (List ℕ)) → option_eq bytes_eq o p ≡ true → o ≡ p
option_eq-tells None None h = refl
option_eq-tells None (Some b) h = cc
option_eq-tells (Some a) None h = cc
option_eq-tells (Some a) (Some b) h = ap Some ((bytes_eq-Decides a b).0 h)

option_eq-self : (o : Option (List ℕ)) → option_eq bytes_eq o o ≡ true
option_eq-self None = refl
option_eq-self (Some a) = bytes_eq-self a

-- the first of a slot, a code and a glyph
abbrev line_of : Option ℕ → Option ℕ → Option ℕ → Option Difference
line_of slot c g = first_of_lines (option_map AtTable slot ∷ option_map AtCode c ∷ option_map AtGlyph g ∷ [])

line_of-none : (slot c g : Option ℕ) → line_of slot c g ≡ None → (slot ≡ None) × (c ≡ None) × (g ≡ None)
line_of-none None None None h = (refl, refl, refl)
line_of-none None None (Some g) h = cc
line_of-none None (Some c) g h = cc
line_of-none (Some slot) c g h = cc

line_of-table : (slot c g : Option ℕ) (s : ℕ) → line_of slot c g ≡ Some (AtTable s) → slot ≡ Some s
line_of-table (Some t) c g s h = cc
line_of-table None (Some c) g s h = cc
line_of-table None None (Some g) s h = cc
line_of-table None None None s h = cc

some_from : (f : ℕ → ℕ) (o : Option ℕ) (y : ℕ) → option_map f o ≡ Some y → (x : ℕ) × ((o ≡ Some x) × (f x ≡ y))
some_from f None y h = cc
some_from f (Some x) y h = let e : f x ≡ y = cc in (x, (refl, e))

-- the first slot that passes is one that there is, and where none does, none of them passes
pub first_slot-low : (p : ℕ → Bool) (slot : ℕ) → first_slot p ≡ Some slot → slot < ALL_SLOTS
first_slot-low p slot h =
    let place = some_from slot_at (find (λ k. p (slot_at k)) (range_with_len 0 ALL_SLOTS)) slot h in
    subst (λ (s : ℕ). s < ALL_SLOTS) place.1.1
    (slot_at_low place.0 (find-least (λ k. p (slot_at k)) ALL_SLOTS place.0 place.1.0).below)

pub first_slot-none : (p : ℕ → Bool) (slot : ℕ) → first_slot p ≡ None → slot < ALL_SLOTS → p slot ≡ false
first_slot-none p slot h low =
    subst (λ (s : ℕ). p s ≡ false) (slot_at-place_of slot low) (find-none (λ k. p (slot_at k)) ALL_SLOTS (place_of slot)
    (option_map-none slot_at _ h) (place_of-low slot low))

pub no_slot_below : (p : ℕ → Bool) → ((slot : ℕ) → slot < ALL_SLOTS → p slot ≡ false) → first_slot p ≡ None
no_slot_below p fails =
    ap (option_map slot_at) (find_none (λ k. p (slot_at k)) 0 (range_with_len 0 ALL_SLOTS)
    (λ k low. let at = get_or-range_with_len 0 ALL_SLOTS k 0 low in
    fails (slot_at (get_or (range_with_len 0 ALL_SLOTS) k 0)) (slot_at_low _ (omega (arith, at, low)))))

pub no_slot : (p : ℕ → Bool) → ((slot : ℕ) → p slot ≡ false) → first_slot p ≡ None
no_slot p fails = no_slot_below p (λ slot low. fails slot)

-- a table that tells two contents apart is one of those that there are
pub difference-table : (K L : Content) (slot : ℕ) → difference K L ≡ Some (AtTable slot) → slot < ALL_SLOTS
unfolding difference
difference-table K L slot h = first_slot-low (is_different_table K L) slot (line_of-table _ _ _ slot h)

-- where a test finds no difference
same_head : (K L : Content) → is_different_table K L 6 ≡ false → K.head ≡ L.head
unfolding is_different_table
same_head K L h = (bytes_eq-Decides K.head L.head).0 (not-false _ h)

same_table : (K L : Content) (slot : ℕ) → (slot ≡ 6 → ⊥) → is_different_table K L slot ≡ false
    → K.copied slot ≡ L.copied slot
unfolding is_different_table
same_table K L slot other h =
    let f = ne_eqb slot 6 other in
    let d : not (option_eq bytes_eq (K.copied slot) (L.copied slot)) ≡ false = rw f at h in
    option_eq-tells _ _ (not-false _ d)

same_code : (K L : Content) (c : ℕ) → is_different_code K L c ≡ false → 0 < K.map c → 0 < L.map c → K.map c ≡ L.map c
unfolding is_different_code
same_code K L c h some also =
    let t = lt-ltb 0 (K.map c) some in
    let u = lt-ltb 0 (L.map c) also in
    let d : not (nat_eq (K.map c) (L.map c)) ≡ false = rw (t, u) at h in
    eqb-true _ _ (not-false _ d)

apart-tells : (a b : Bool) → are_apart a b ≡ false → a ≡ b
apart-tells true b h = sym (not-false b h)
apart-tells false b h = sym h

pub apart-same : (a b : Bool) → a ≡ b → are_apart a b ≡ false
apart-same a b e = subst (λ (x : Bool). are_apart a x ≡ false) e (go a)
  where
    go : (x : Bool) → are_apart x x ≡ false
    go true = refl
    go false = refl

same_glyph : (K L : Content) (g : ℕ) (a b : List ℕ) → is_different_glyph K L g ≡ false → K.outline g ≡ Some a
    → L.outline g ≡ Some b → (a ≡ b) × (has_other_part K L g ≡ false) × (K.there g ≡ L.there g)
unfolding is_different_glyph
same_glyph K L g a b h ea eb =
    let other : Bool = has_other_part K L g || are_apart (K.there g) (L.there g) in
    let d : (not (bytes_eq a b) || other) ≡ false = (λ i. are_different (sym ea i) (sym eb i) other) ∙ h in
    let w = or_parts _ _ d in
    let x = or_parts _ _ w.1 in
    ((bytes_eq-Decides a b).0 (not-false _ w.0), x.0, apart-tells (K.there g) (L.there g) x.1)

-- parts in each slot
slot_parted : (slot : ℕ) → slot ≤ SEQUENCES → slot < PARTED
unfolding PARTED
slot_parted slot low = omega (arith, low)

pub same_part : (K L : Content) (g slot : ℕ) → has_other_part K L g ≡ false → slot < PARTED
    → K.parts slot g ≡ L.parts slot g
unfolding has_other_part
same_part K L g slot h low =
    elim (cases_Bool (bytes_eq (K.parts slot g) (L.parts slot g))) [
      | inl t ↦ (bytes_eq-Decides (K.parts slot g) (L.parts slot g)).0 t
      | inr f ↦
          absurd (both_ways _ h ((any_decides (λ s. not (bytes_eq (K.parts s g) (L.parts s g))) PARTED).1 (
            slot,
            low,
            ap not f,
          )))
    ]

pub part_same : (K L : Content) (g : ℕ) → ((slot : ℕ) → K.parts slot g ≡ L.parts slot g) → has_other_part K L g ≡ false
unfolding has_other_part
part_same K L g h =
    false_from_ne_true _ (λ t.
    let w = (any_decides (λ s. not (bytes_eq (K.parts s g) (L.parts s g))) PARTED).0 t in
    both_ways _ (ap not ((bytes_eq-Decides (K.parts w.0 g) (L.parts w.0 g)).1 (h w.0))) w.2)

-- where there is none to find
table_same : (K L : Content) (slot : ℕ) → K.head ≡ L.head → K.copied slot ≡ L.copied slot
    → is_different_table K L slot ≡ false
unfolding is_different_table
table_same K L slot head copied =
    elim (nat_eq slot 6) as (λ b. cond b (not (bytes_eq K.head L.head))
    (not (option_eq bytes_eq (K.copied slot) (L.copied slot))) ≡ false) [
      | true ↦ ap not ((bytes_eq-Decides K.head L.head).1 head)
      | false ↦ ap not (subst (λ x. option_eq bytes_eq (K.copied slot) x ≡ true) copied
          (option_eq-self (K.copied slot)))
    ]

code_same : (K L : Content) (c : ℕ) → (0 < K.map c → 0 < L.map c → K.map c ≡ L.map c) → is_different_code K L c ≡ false
unfolding is_different_code
code_same K L c h = go (nat_lt 0 (K.map c)) (nat_lt 0 (L.map c)) refl refl
  where
    go : (a b : Bool) → nat_lt 0 (K.map c) ≡ a → nat_lt 0 (L.map c) ≡ b → (a && (b && not (nat_eq (K.map c) (L.map c))))
        ≡ false
    go false b x y = refl
    go true false x y = refl
    go true true x y = ap not (eq-eqb _ _ (h (ltb-true 0 (K.map c) x) (ltb-true 0 (L.map c) y)))

glyph_same : (K L : Content) (g : ℕ) → ((a b : List ℕ) → K.outline g ≡ Some a → L.outline g ≡ Some b → a ≡ b)
    → ((a b : List ℕ) → K.outline g ≡ Some a → L.outline g ≡ Some b → (slot : ℕ) → K.parts slot g ≡ L.parts slot g)
    → ((a b : List ℕ) → K.outline g ≡ Some a → L.outline g ≡ Some b → K.there g ≡ L.there g)
    → is_different_glyph K L g ≡ false
unfolding is_different_glyph
glyph_same K L g h parts there = go (K.outline g) (L.outline g) refl refl
  where
    go : (o p : Option (List ℕ)) → K.outline g ≡ o → L.outline g ≡ p
        → are_different o p (has_other_part K L g || are_apart (K.there g) (L.there g)) ≡ false
    go None None x y = refl
    go None (Some b) x y = refl
    go (Some a) None x y = refl
    go (Some a) (Some b) x y =
        λ i. not ((bytes_eq-Decides a b).1 (h a b x y) i)
        || (part_same K L g (parts a b x y) i || apart-same (K.there g) (L.there g) (there a b x y) i)

-- the slots that are always empty
never_past : (slot : ℕ) → SEQUENCES < slot → is_never_filled slot ≡ true
never_past slot past = or_right _ _ (lt-ltb SEQUENCES slot past)

module _ (K L : Content) (okK : IsClosedContent K) (okL : IsClosedContent L) where
  both_none : (slot : ℕ) → is_never_filled slot ≡ true → K.copied slot ≡ L.copied slot
  both_none slot made = okK.font.slots slot made ∙ sym (okL.font.slots slot made)

  pub Agree-from_none : K.copied SEQUENCES ≡ L.copied SEQUENCES → difference K L ≡ None → Agree K L
  unfolding difference
  Agree-from_none same h =
      let w : (first_slot (is_different_table K L) ≡ None)
      × (find (is_different_code K L) (range_with_len 0 CODES) ≡ None)
      × (find (is_different_glyph K L) (range_with_len 0 (glyph_count K.copied)) ≡ None) = line_of-none _ _ _ h in
      record {
        head = same_head K L (first_slot-none (is_different_table K L) 6 w.0 (omega arith));
        copied = λ slot. elim (cases_lt slot ALL_SLOTS) [
          | inl low ↦ elim (cases_eq slot 6) [
            | inl e ↦ both_none slot (subst (λ (x : ℕ). is_never_filled x ≡ true) (sym e) refl)
            | inr other ↦ same_table K L slot other (first_slot-none (is_different_table K L) slot w.0 low)
          ]
          | inr past ↦ elim (cases_eq slot SEQUENCES) [
            | inl e ↦ subst (λ (x : ℕ). K.copied x ≡ L.copied x) (sym e) same
            | inr other ↦ both_none slot (never_past slot (omega (arith, past, other)))
          ]
        ];
        map = λ c some also. elim (cases_lt c CODES) [
          | inl low ↦ same_code K L c (find-none (is_different_code K L) CODES c w.1 low) some also
          | inr past ↦ let none = okK.font.mapped_codes c past in absurd (omega (arith, none, some))
        ];
        outline = λ g a b ea eb.
            let low : g < glyph_count K.copied =
            IsKept-below (read_back K) everything okK.font g (some-held K okK g a ea) in
            (same_glyph K L g a b (find-none (is_different_glyph K L) (glyph_count K.copied) g w.2 low) ea eb).0;
        parts = λ g a b ea eb slot.
            let low : g < glyph_count K.copied =
            IsKept-below (read_back K) everything okK.font g (some-held K okK g a ea) in
            let same = same_glyph K L g a b (find-none (is_different_glyph K L) (glyph_count K.copied) g w.2 low) ea eb
            in
            elim (cases_lt SEQUENCES slot) [
              | inl past ↦
                  okK.font.unparted slot g (never_past slot past)
                  ∙ sym (okL.font.unparted slot g (never_past slot past))
              | inr few ↦ same_part K L g slot same.1 (slot_parted slot few)
            ];
        there = λ g a b ea eb.
            let low : g < glyph_count K.copied =
            IsKept-below (read_back K) everything okK.font g (some-held K okK g a ea) in
            (same_glyph K L g a b (find-none (is_different_glyph K L) (glyph_count K.copied) g w.2 low) ea eb).2;
      }

  pub none_from-Agree : Agree K L → difference K L ≡ None
  unfolding difference
  none_from-Agree agree =
      let t = no_slot (is_different_table K L) (λ slot. table_same K L slot agree.head (agree.copied slot)) in
      let c = find_none (is_different_code K L) 0 (range_with_len 0 CODES)
      (λ k low. let x = get_or (range_with_len 0 CODES) k 0 in code_same K L x (agree.map x)) in
      let g = find_none (is_different_glyph K L) 0 (range_with_len 0 (glyph_count K.copied))
      (λ k low. let x = get_or (range_with_len 0 (glyph_count K.copied)) k 0 in glyph_same K L x (agree.outline x)
      (agree.parts x) (agree.there x)) in
      λ i. line_of (t i) (c i) (g i)

  -- whether they agree is decided
  pub Agree-decided : K.copied SEQUENCES ≡ L.copied SEQUENCES → Agree K L ⊎ (¬ Agree K L)
  Agree-decided same = go (cases_option (difference K L))
    where
      go : ((difference K L ≡ None) ⊎ ((d : Difference) × (difference K L ≡ Some d))) → Agree K L ⊎ (¬ Agree K L)
      go (inl e) = inl (Agree-from_none same e)
      go (inr w) = inr (λ a. let n : None ≡ Some w.0 = sym (none_from-Agree a) ∙ w.1 in cc)
