-- Toys are divided as is asked, and what is told and made of them is so by how they are divided.
use Rattle.std.proofs.Common.{◌≡◌, ℕ, ◌+◌, ◌-◌, ◌<◌, ◌≤◌, inl, inr, nat_eq, nat_lt, ◌&&◌, not, Bool, true, false, cond}
use Rattle.std.proofs.Common.{List, [], ◌∷◌, get_or, length, map, Option, None, Some, is_some, unwrap_or, refl, sym}
use Rattle.std.proofs.Common.{◌∙◌, ap, subst, arith, slice_set}
use Rattle.std.specs.Cmp.{both_ways}
use Rattle.std.specs.Int.Bits.{bit_or, or_self}
use Rattle.std.specs.List.{range_with_len}
use Rattle.std.specs.Option.{option_map}
use Rattle.std.specs.Str.{bytes_eq}
use Rattle.std.proofs.lemmas.Bool.{cases_eq, cases_lt, eqb-true, ne_eqb}
use Rattle.std.proofs.lemmas.List.{ext_get_or, get_or-set_other, get_or-set_same, get_or_past, length-set}
use Rattle.std.proofs.lemmas.List.FromFn.{fill_by_all, get_or-map-range_with_len, length-map-range_with_len}
use Rattle.std.proofs.lemmas.Slice.Eq.{bytes_eq-Decides}
use Rattle.font_tables.specs.Fields.{num_glyphs}
use Rattle.sfnt_bytes.specs.Number.{u16_at}
use Rattle.font_theory.specs.Content.{Content, glyph_count, table_in_slot}
use Rattle.font_theory.specs.Kinds.{reduced}
use Rattle.font_theory.specs.Parted.{either_bytes}
use Rattle.font_theory.specs.Parting.{IsPart, IsParting, Tables, context, frames, parts_of}
use Rattle.font_theory.proofs.HeldLemmas.{cases_option}
use Rattle.font_theory.proofs.PartLemmas.{parts_of-at, parts_of-none}
use Rattle.divided_tables.specs.PartedTable.{ArePartsIn, IsUnionOf, alone, made_or_laid}
use Rattle.divided_tables.proofs.EitherLemmas.{each_byte}
use Rattle.table_tests.specs.Toys.{AreToysOf, OpenToys, toy, toy_byte, toys, toys_alone, toys_parts, with_toys}
use Rattle.table_tests.specs.declared.toys.TheConstants.{TOYS}

-- the byte of a toy
first_toy : (b : ℕ) → get_or (toy b) 0 0 ≡ b
first_toy b = elim (cases_eq b 0) [
  | inl e ↦ ap (λ (n : ℕ). get_or (toy n) 0 0) e ∙ sym e
  | inr n ↦ ap (λ x. get_or (cond x [] (b ∷ [])) 0 0) (ne_eqb b 0 n)
]

pub has_toy : (b : ℕ) → not (nat_eq b 0) ≡ nat_lt 0 (length (toy b))
has_toy b = go (nat_eq b 0)
  where
    go : (x : Bool) → not x ≡ nat_lt 0 (length (cond x [] (b ∷ [])))
    go true = refl
    go false = refl

pub same_toy : (a b : ℕ) → nat_eq a b ≡ bytes_eq (toy a) (toy b)
same_toy a b = both_ways _ _ (λ t. (bytes_eq-Decides (toy a) (toy b)).1 (ap toy (eqb-true a b t)))
    (λ t. let e : a ≡ b = sym (first_toy a) ∙ ap (λ (l : List ℕ). get_or l 0 0) ((bytes_eq-Decides (toy a) (toy b)).0 t)
    ∙ first_toy b in
    ap (nat_eq a) (sym e) ∙ same_eq a)
  where
    same_eq : (n : ℕ) → nat_eq n n ≡ true
    same_eq n = elim (cases_eq n n) [ inl e ↦ grind (arith, e) | inr x ↦ absurd (x refl) ]

-- tables with toys, byte by byte
pub size : (parts : ℕ → List ℕ) (t : List ℕ) → length (with_toys parts t) ≡ length t
size parts t = length-map-range_with_len (toy_byte parts t) 0 (length t)

byte : (parts : ℕ → List ℕ) (t : List ℕ) (j : ℕ) → j < length t → get_or (with_toys parts t) j 0 ≡ toy_byte parts t j
byte parts t j low = get_or-map-range_with_len (toy_byte parts t) 0 (length t) j j 0 low (omega arith)

later : (parts : ℕ → List ℕ) (t : List ℕ) (j : ℕ) → toy_byte parts t (j + 1) ≡ get_or (parts j) 0 0
later parts t j =
    let f : nat_eq (j + 1) 0 ≡ false = ne_eqb (j + 1) 0 (λ e. omega (arith, e)) in
    let e : j + 1 - 1 ≡ j = omega arith in
    ap (λ b. cond b (get_or t 0 0) (get_or (parts (j + 1 - 1)) 0 0)) f ∙ ap (λ (n : ℕ). get_or (parts n) 0 0) e

again : (parts before : ℕ → List ℕ) (t : List ℕ) → with_toys parts (with_toys before t) ≡ with_toys parts t
again parts before t =
    let a = size parts (with_toys before t) in
    let b = size before t in
    let d = size parts t in
    ext_get_or 0 _ _ (omega arith) (λ j low.
    byte parts (with_toys before t) j (omega arith)
    ∙ elim (cases_eq j 0) [
      | inl e ↦ (λ i. toy_byte parts (with_toys before t) (e i))
          ∙ byte before t 0 (let k = ap (λ (n : ℕ). n) e in omega (arith, a, b, low, k))
          ∙ sym (λ i. toy_byte parts t (e i))
      | inr n ↦ ap (λ x. cond x (get_or (with_toys before t) 0 0) (get_or (parts (j - 1)) 0 0)) (ne_eqb j 0 n)
          ∙ sym (ap (λ x. cond x (get_or t 0 0) (get_or (parts (j - 1)) 0 0)) (ne_eqb j 0 n))
    ]
    ∙ sym (byte parts t j (omega (arith, a, b, low))))

-- each toy is the part of its glyph
part : (c : Tables) (f : List ℕ) (parts : ℕ → List ℕ) (g : ℕ) → IsPart toys c f g (parts g)
    → toy (get_or (with_toys parts f) (g + 1) 0) ≡ parts g
unfolding toys
part c f parts g (inl none) = elim (cases_lt (g + 1) (length f)) [
  | inl low ↦ ap toy (byte parts f (g + 1) low ∙ later parts f g ∙ ap (λ (l : List ℕ). get_or l 0 0) none) ∙ sym none
  | inr high ↦ ap toy (get_or_past (with_toys parts f) (g + 1) 0 (let s = size parts f in omega (arith, high, s)))
      ∙ sym none
]
part c f parts g (inr w) =
    let t : List ℕ = w.0 in
    let long : length f ≡ length t = sym (ap (λ (l : List ℕ). length l) w.1) ∙ size (λ _. []) t in
    elim (cases_lt (g + 1) (length f)) [
      | inl low ↦ ap toy (byte parts f (g + 1) low ∙ later parts f g ∙ ap (λ (l : List ℕ). get_or l 0 0) (sym w.2)
          ∙ first_toy (get_or t (g + 1) 0)) ∙ w.2
      | inr high ↦
          ap toy (get_or_past (with_toys parts f) (g + 1) 0 (let s = size parts f in omega (arith, high, s)))
          ∙ sym (ap toy (get_or_past t (g + 1) 0 (omega (arith, high, long)))) ∙ w.2
    ]

pub IsParting-toys : IsParting (λ _ _. false) toys
unfolding toys
IsParting-toys = record {
  frame_good = λ c t h. refl;
  whole_good = λ c frame parts h fit. refl;
  frame_again = λ c t h. again (λ _. []) (λ _. []) t;
  own_fit = λ c t h. refl;
  fewer_fit = λ c frame parts fewer h fit few. refl;
  frame_is = λ c frame parts h fit. again (λ _. []) parts frame;
  part_is = λ c frame parts g h fit low part_of. part c frame parts g part_of;
}

-- what is told of toys that are open
pub toys_open : (c : Tables) (o : OpenToys) → AreToysOf c o → ArePartsIn toys TOYS c (toys_parts o)
unfolding toys
toys_open c o is = record {
  count_is = is.count_is;
  parts_are = λ g low. ap (λ (l : List ℕ). toy (get_or l (g + 1) 0)) is.bytes_are ∙ elim (cases_option (c TOYS)) [
    | inl none ↦ ap (λ (t : Option (List ℕ)). toy (get_or (unwrap_or t []) (g + 1) 0)) none
        ∙ sym (parts_of-none (alone toys) c TOYS g none)
    | inr w ↦ ap (λ (t : Option (List ℕ)). toy (get_or (unwrap_or t []) (g + 1) 0)) w.1
        ∙ sym (parts_of-at (alone toys) c TOYS g w.0 (subst (λ (n : ℕ). g < n) is.count_is low) w.1)
  ];
}

-- and what is made of them
pub toys_framed : (c : Tables) (t : List ℕ) → c TOYS ≡ Some t → Some (with_toys (λ _. []) t)
    ≡ frames (alone toys) c TOYS
unfolding frames toys
toys_framed c t e = sym (ap (option_map (λ (f : List ℕ). with_toys (λ _. []) f)) e)

pub toys_kept : (K : Content) (t : List ℕ) → K.copied TOYS ≡ Some t
    → Some (with_toys (λ g. cond (is_some (K.outline g)) (toy (get_or t (g + 1) 0)) []) t)
    ≡ (reduced (alone toys) K).copied TOYS
unfolding reduced toys
toys_kept K t e = sym (ap (option_map _) e
    ∙ ap Some (again (λ g. cond (is_some (K.outline g)) (toy (get_or t (g + 1) 0)) []) (λ _. []) t))

pub toys_missing : (K : Content) → K.copied TOYS ≡ None → (reduced (alone toys) K).copied TOYS ≡ None
unfolding reduced
toys_missing K e = ap (option_map _) e

pub frames_missing : (c : Tables) → c TOYS ≡ None → frames (alone toys) c TOYS ≡ None
unfolding frames
frames_missing c e = ap (option_map _) e

either_bytes-is : (x y u : List ℕ) → length u ≡ length x
    → ((j : ℕ) → j < length x → get_or u j 0 ≡ bit_or (get_or x j 0) (get_or y j 0)) → either_bytes x y ≡ u
unfolding either_bytes
either_bytes-is x y u count each =
    sym (fill_by_all (λ j. bit_or (get_or x j 0) (get_or y j 0)) u (length x) 0 count (λ j low. each j low))

laid : (u first second : ℕ → List ℕ) (t : List ℕ)
    → ((g w : ℕ) → get_or (u g) w 0 ≡ bit_or (get_or (first g) w 0) (get_or (second g) w 0))
    → either_bytes (with_toys first t) (with_toys second t) ≡ with_toys u t
laid u first second t each =
    either_bytes-is (with_toys first t) (with_toys second t) (with_toys u t) (size u t ∙ sym (size first t)) (λ j low.
    let small : j < length t = (let s = size first t in omega (arith, low, s)) in
    byte u t j small
    ∙ elim (cases_eq j 0) [
      | inl e ↦ (λ i. toy_byte u t (e i)) ∙ sym (or_self (get_or t 0 0))
          ∙ sym (λ i. bit_or (toy_byte first t (e i)) (toy_byte second t (e i)))
      | inr n ↦ ap (λ x. cond x (get_or t 0 0) (get_or (u (j - 1)) 0 0)) (ne_eqb j 0 n) ∙ each (j - 1) 0
          ∙ sym (λ i. bit_or (cond (ne_eqb j 0 n i) (get_or t 0 0) (get_or (first (j - 1)) 0 0))
          (cond (ne_eqb j 0 n i) (get_or t 0 0) (get_or (second (j - 1)) 0 0)))
    ]
    ∙ sym (λ i. bit_or (byte first t j small i) (byte second t j small i)))

pub toys_united : (C E : Content) → IsUnionOf toys TOYS C E None
unfolding toys
toys_united C E = λ c P Q are fit.
    (λ i. made_or_laid None (are.first i) (unwrap_or (are.second i) []))
    ∙ go P Q (λ g. cond (is_some (C.outline g)) (P g) (Q g))
    (each_byte C E P Q are.first_kept are.second_kept are.same) (c TOYS)
  where
    go : (P Q R : ℕ → List ℕ) → ((g w : ℕ) → get_or (R g) w 0 ≡ bit_or (get_or (P g) w 0) (get_or (Q g) w 0))
        → (o : Option (List ℕ)) → option_map (λ t. either_bytes t (unwrap_or (option_map (λ f. with_toys Q f) o) []))
        (option_map (λ f. with_toys P f) o) ≡ option_map (λ f. with_toys R f) o
    go P Q R each None = refl
    go P Q R each (Some f) = ap Some (laid R P Q f each)

-- a table that is made byte by byte
pub record AreMadeTo (parts : ℕ → List ℕ) (t now : List ℕ) (stop : ℕ) : Type 0 where
  pub count : length now ≡ length t
  pub below : (j : ℕ) → j < stop → get_or now j 0 ≡ toy_byte parts t j

module _ (parts : ℕ → List ℕ) (t : List ℕ) where
  pub made_start : (now : List ℕ) → length now ≡ length t → AreMadeTo parts t now 0
  made_start now count = record { count = count; below = λ j low. absurd (omega (arith, low)) }

  pub made_step : (old new : List ℕ) (stop b : ℕ) → stop < length t → new ≡ slice_set old stop b
      → b ≡ toy_byte parts t stop → AreMadeTo parts t old stop → AreMadeTo parts t new (stop + 1)
  made_step old new stop b low set is are = record {
    count = ap (λ (l : List ℕ). length l) set ∙ length-set old stop b ∙ are.count;
    below = λ j less. ap (λ (l : List ℕ). get_or l j 0) set ∙ elim (cases_eq j stop) [
      | inl e ↦ ap (λ (n : ℕ). get_or (slice_set old stop b) n 0) e
          ∙ get_or-set_same old stop b 0 (let c = are.count in omega (arith, low, c)) ∙ is
          ∙ sym (ap (toy_byte parts t) e)
      | inr n ↦ get_or-set_other old stop j b 0 n ∙ are.below j (omega (arith, less, n))
    ];
  }

  pub made_end : (now : List ℕ) (stop : ℕ) → length t ≤ stop → AreMadeTo parts t now stop → now ≡ with_toys parts t
  made_end now stop past are = fill_by_all (toy_byte parts t) now (length t) 0 are.count
      (λ j low. are.below j (omega (arith, low, past)))

-- the font of the test has three glyphs
pub count_alone : (bytes : List ℕ) → 3 ≡ glyph_count (toys_alone bytes)
unfolding toys_alone glyph_count num_glyphs u16_at
count_alone bytes = refl

pub low_alone : (bytes : List ℕ) (g : ℕ) → g < 3 → g < glyph_count (toys_alone bytes)
low_alone bytes g low = subst (λ (n : ℕ). g < n) (count_alone bytes) low
