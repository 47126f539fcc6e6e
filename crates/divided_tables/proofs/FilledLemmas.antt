-- Tables of metrics that are filled glyph by glyph.
use Rattle.std.proofs.Common.{◌≡◌, ℕ, ◌+◌, ◌-◌, ◌*◌, ◌<◌, ◌≤◌, ◌⊎◌, inl, inr, nat_eq, nat_le, nat_lt, ◌&&◌, Bool, true}
use Rattle.std.proofs.Common.{false, cond, not, List, ◌++◌, length, get_or, drop, take, replicate, refl, sym, ◌∙◌, ap}
use Rattle.std.proofs.Common.{subst, arith, Option, Some}
use Rattle.std.proofs.lemmas.Bool.{cases_Bool, cases_lt, le-leb, le-ltb, lt-leb, lt-ltb, ne_eqb}
use Rattle.std.proofs.lemmas.List.{drop-take, ext_get_or, get_or-append_right, get_or-drop, get_or-replicate}
use Rattle.std.proofs.lemmas.List.{get_or-take, get_or_append_left, length-append, length-drop, length-replicate}
use Rattle.std.proofs.lemmas.List.{length-take, length-take-le}
use Rattle.std.specs.Option.{IsSome, is_some, option_map}
use Rattle.font_theory.specs.Bytes.{bytes32}
use Rattle.font_theory.specs.Content.{Content, glyph_count}
use Rattle.font_theory.specs.Parted.{blank, cleared, entry_size, entry_start, holder, is_entry, place_in_entry}
use Rattle.font_theory.specs.Parted.{thin_post}
use Rattle.font_theory.proofs.EntryLemmas.{get_or-blank, get_or-cleared, is_byte_of, is_place, length-blank}
use Rattle.font_theory.proofs.EntryLemmas.{length-cleared}
use Rattle.font_theory.proofs.PartedLemmas.{thin_post-short}
use Rattle.font_write.specs.Parts.{IsNextKept}
use Rattle.divided_tables.specs.OpenMetrics.{AreCopied}
use borrow.Rule.Slice.PartMut.{post_of, put_mid}

-- a part of a table, copied
pub copied_part : (from old part : List ℕ) (at size k : ℕ) → k ≡ size → at + size ≤ length from
    → length old ≡ length from → part ≡ take k (drop at from)
    → AreCopied from at size old (put_mid at k old part)
copied_part from old part at size k same room long is =
    let front : length (take at old) ≡ at = length-take-le at old (omega arith) in
    let middle : length part ≡ size = ap (λ (l : List ℕ). length l) is ∙ length-take k (drop at from)
    ∙ (let d = length-drop at from in omega arith) in
    let rest : length (post_of at k old) ≡ length old - at - k = length-drop k (drop at old)
    ∙ (let d = length-drop at old in omega arith) in
    record {
      count = let a = length-append (take at old) (part ++ post_of at k old) in let b =
          length-append part (post_of at k old) in omega arith;
      inside = λ j low high.
          get_or-append_right (take at old) (part ++ post_of at k old) at j 0 front low
          ∙ get_or_append_left part (post_of at k old) 0 (j - at) (omega arith)
          ∙ ap (λ (l : List ℕ). get_or l (j - at) 0) is
          ∙ get_or-take k (drop at from) (j - at) 0 (omega arith)
          ∙ get_or-drop at from (j - at) 0
          ∙ (let e : at + (j - at) ≡ j = omega arith in ap (λ (x : ℕ). get_or from x 0) e);
      outside = λ j out. elim out [
        | inl low ↦ get_or_append_left (take at old) (part ++ post_of at k old) 0 j (omega arith)
            ∙ get_or-take at old j 0 low
        | inr high ↦
            get_or-append_right (take at old) (part ++ post_of at k old) at j 0 front (omega arith)
            ∙ get_or-append_right part (post_of at k old) size (j - at) 0 middle (omega arith)
            ∙ get_or-drop k (drop at old) (j - at - size) 0
            ∙ get_or-drop at old (k + (j - at - size)) 0
            ∙ (let e : at + (k + (j - at - size)) ≡ j = omega arith in ap (λ (x : ℕ). get_or old x 0) e)
      ];
    }

-- which bytes are of one glyph alone
is_entry-some : (k n j : ℕ) → 0 < k → j < 2 * (k + n) → (j + 4 < 4 * k) ⊎ (4 * k ≤ j + 2) → is_entry k n j ≡ true
unfolding is_entry
is_entry-some k n j some low at =
    let ne : nat_eq k 0 ≡ false = ne_eqb k 0 (λ e. omega arith) in
    let inside : nat_lt j (2 * (k + n)) ≡ true = lt-ltb _ _ low in
    elim at [
      | inl pair ↦ let t : nat_lt (j + 4) (4 * k) ≡ true = lt-ltb _ _ pair in rw (ne, inside, t) refl
      | inr late ↦
          let f : nat_lt (j + 4) (4 * k) ≡ false = le-ltb _ _ (omega arith) in
          let t : nat_le (4 * k) (j + 2) ≡ true = le-leb _ _ late in
          rw (ne, inside, f, t) refl
    ]

-- those of the last advance are not, nor is what stands after the bearings
is_entry-last : (k n j : ℕ) → 4 * k ≤ j + 4 → j + 2 < 4 * k → is_entry k n j ≡ false
unfolding is_entry
is_entry-last k n j high low =
    let f : nat_lt (j + 4) (4 * k) ≡ false = le-ltb _ _ high in
    let g : nat_le (4 * k) (j + 2) ≡ false = lt-leb _ _ low in
    rw (f, g) (none (not (nat_eq k 0)) (nat_lt j (2 * (k + n))))
  where
    none : (a b : Bool) → (a && (b && false)) ≡ false
    none false b = refl
    none true false = refl
    none true true = refl

is_entry-past : (k n j : ℕ) → 2 * (k + n) ≤ j → is_entry k n j ≡ false
unfolding is_entry
is_entry-past k n j past =
    let f : nat_lt j (2 * (k + n)) ≡ false = le-ltb _ _ past in
    rw f (none (not (nat_eq k 0)))
  where
    none : (a : Bool) → (a && false) ≡ false
    none false = refl
    none true = refl

-- zeros, the last advance, and what stands after the bearings
module _ (k n : ℕ) (t zeros one two : List ℕ) (some : 0 < k) (few : k ≤ n) (room : 2 * (k + n) ≤ length t)
    (is : zeros ≡ replicate (length t) 0)
    (last : AreCopied t (4 * (k - 1)) 2 zeros one) (rest : AreCopied t (2 * (k + n)) (length t - 2 * (k + n)) one two)
  where
    byte-blank : (j : ℕ) → j < length t → get_or two j 0 ≡ cond (is_entry k n j) 0 (get_or t j 0)
    byte-blank j low =
        elim (cases_lt j (2 * (k + n))) [
          | inr past ↦ rest.inside j past (omega arith)
              ∙ sym (ap (λ b. cond b 0 (get_or t j 0)) (is_entry-past k n j past))
          | inl here ↦
              rest.outside j (inl here)
              ∙ elim (cases_lt j (4 * (k - 1))) [
                | inl before ↦
                    last.outside j (inl before) ∙ ap (λ (l : List ℕ). get_or l j 0) is
                    ∙ get_or-replicate (length t) j 0 0 low
                    ∙ sym (ap (λ b. cond b 0 (get_or t j 0)) (is_entry-some k n j some here (inl (omega arith))))
                | inr from ↦ elim (cases_lt j (4 * (k - 1) + 2)) [
                  | inl among ↦ last.inside j from among
                      ∙ sym (ap (λ b. cond b 0 (get_or t j 0)) (is_entry-last k n j (omega arith) (omega arith)))
                  | inr after ↦
                      last.outside j (inr after) ∙ ap (λ (l : List ℕ). get_or l j 0) is
                      ∙ get_or-replicate (length t) j 0 0 low
                      ∙ sym (ap (λ b. cond b 0 (get_or t j 0)) (is_entry-some k n j some here (inr (omega arith))))
                ]
              ]
        ]

    pub blank_is : two ≡ blank k n t
    blank_is =
        let size = length-blank k n t in
        let zero : length zeros ≡ length t = ap (λ (l : List ℕ). length l) is ∙ length-replicate (length t) 0 in
        let same : length two ≡ length t = rest.count ∙ last.count ∙ zero in
        ext_get_or 0 two (blank k n t) (omega arith) (λ j low. byte-blank j (omega arith) ∙ sym (get_or-blank k n t j))

-- a table with the bytes of the kept glyphs below a given one
abbrev pub filled : (ℕ → Bool) → ℕ → ℕ → List ℕ → ℕ → List ℕ
filled keeps k n t stop = cleared (λ h. keeps h && nat_lt h stop) k n t

abbrev filled_byte : (ℕ → Bool) → ℕ → ℕ → List ℕ → ℕ → ℕ → ℕ
filled_byte keeps k n t stop j = cond (is_entry k n j && not (keeps (holder k j) && nat_lt (holder k j) stop)) 0
    (get_or t j 0)

-- the byte of a glyph below the place, and of one that is not
byte_below : (keeps : ℕ → Bool) (k n : ℕ) (t : List ℕ) (stop j : ℕ) → holder k j < stop → filled_byte keeps k n t stop j
    ≡ cond (is_entry k n j && not (keeps (holder k j))) 0 (get_or t j 0)
byte_below keeps k n t stop j low =
    ap (λ b. cond (is_entry k n j && not (keeps (holder k j) && b)) 0 (get_or t j 0)) (lt-ltb _ _ low)
    ∙ ap (λ b. cond (is_entry k n j && not b) 0 (get_or t j 0)) (and-true (keeps (holder k j)))
  where
    and-true : (a : Bool) → (a && true) ≡ a
    and-true true = refl
    and-true false = refl

byte_above : (keeps : ℕ → Bool) (k n : ℕ) (t : List ℕ) (stop j : ℕ) → is_entry k n j ≡ true → stop ≤ holder k j
    → filled_byte keeps k n t stop j ≡ 0
byte_above keeps k n t stop j e high =
    ap (λ b. cond (is_entry k n j && not (keeps (holder k j) && b)) 0 (get_or t j 0)) (le-ltb _ _ high)
    ∙ ap (λ b. cond (is_entry k n j && not b) 0 (get_or t j 0)) (and-false (keeps (holder k j)))
    ∙ ap (λ b. cond (b && true) 0 (get_or t j 0)) e
  where
    and-false : (a : Bool) → (a && false) ≡ false
    and-false true = refl
    and-false false = refl

-- that of a glyph that is not kept, and that of none
byte_dropped : (keeps : ℕ → Bool) (k n : ℕ) (t : List ℕ) (stop j : ℕ) → is_entry k n j ≡ true
    → keeps (holder k j) ≡ false → filled_byte keeps k n t stop j ≡ 0
byte_dropped keeps k n t stop j e none = (λ i. cond (e i && not (none i && nat_lt (holder k j) stop)) 0 (get_or t j 0))

byte_other : (keeps : ℕ → Bool) (k n : ℕ) (t : List ℕ) (stop j : ℕ) → is_entry k n j ≡ false
    → filled_byte keeps k n t stop j ≡ get_or t j 0
byte_other keeps k n t stop j f =
    ap (λ b. cond (b && not (keeps (holder k j) && nat_lt (holder k j) stop)) 0 (get_or t j 0)) f

module _ (keeps : ℕ → Bool) (k n : ℕ) (t : List ℕ) where
  -- at first nothing is there
  pub filled-none : (stop : ℕ) → ((h : ℕ) → h < stop → keeps h ≡ false) → filled keeps k n t stop ≡ blank k n t
  filled-none stop none =
      let size = length-cleared (λ h. keeps h && nat_lt h stop) k n t in
      let size' = length-blank k n t in
      ext_get_or 0 _ _ (omega arith) (λ j low. get_or-cleared (λ h. keeps h && nat_lt h stop) k n t j (omega arith)
      ∙ byte j ∙ sym (get_or-blank k n t j))
    where
      byte : (j : ℕ) → filled_byte keeps k n t stop j ≡ cond (is_entry k n j) 0 (get_or t j 0)
      byte j =
          elim (cases_Bool (is_entry k n j)) [
            | inr f ↦ byte_other keeps k n t stop j f ∙ sym (ap (λ b. cond b 0 (get_or t j 0)) f)
            | inl e ↦
                elim (cases_lt (holder k j) stop) [
                  | inl below ↦ byte_dropped keeps k n t stop j e (none (holder k j) below)
                  | inr above ↦ byte_above keeps k n t stop j e above
                ]
                ∙ sym (ap (λ b. cond b 0 (get_or t j 0)) e)
          ]

  -- at the end all that is kept
  pub filled-all : (stop : ℕ) → k ≤ n → n ≤ stop → filled keeps k n t stop ≡ cleared keeps k n t
  filled-all stop few past =
      let size = length-cleared (λ h. keeps h && nat_lt h stop) k n t in
      let size' = length-cleared keeps k n t in
      ext_get_or 0 _ _ (omega arith) (λ j low. get_or-cleared (λ h. keeps h && nat_lt h stop) k n t j (omega arith)
      ∙ byte j ∙ sym (get_or-cleared keeps k n t j (omega arith)))
    where
      byte : (j : ℕ) → filled_byte keeps k n t stop j ≡ cond (is_entry k n j && not (keeps (holder k j))) 0
          (get_or t j 0)
      byte j =
          elim (cases_Bool (is_entry k n j)) [
            | inr f ↦ byte_other keeps k n t stop j f
                ∙ sym (ap (λ b. cond (b && not (keeps (holder k j))) 0 (get_or t j 0)) f)
            | inl e ↦ let low = (is_place k n j few e).low in byte_below keeps k n t stop j (omega arith)
          ]

  -- the bytes of one more glyph
  module _ (old new : List ℕ) (g next : ℕ) (some : 0 < k) (few : k ≤ n) (low : g < n) (kept : keeps g ≡ true) (more : g
      < next)
      (none : (h : ℕ) → g + 1 ≤ h → h < next → keeps h ≡ false) (was : old ≡ filled keeps k n t g)
      (copied : AreCopied t (entry_start k g) (entry_size k g) old new) where
    was_byte : (j : ℕ) → j < length t → get_or old j 0 ≡ filled_byte keeps k n t g j
    was_byte j small = ap (λ (l : List ℕ). get_or l j 0) was ∙ get_or-cleared (λ h. keeps h && nat_lt h g) k n t j small

    -- a byte that is not of this glyph stays
    is_outside : (j : ℕ) → ((entry_start k g ≤ j) → (j < entry_start k g + entry_size k g) → ⊥) → (j < entry_start k g)
        ⊎ (entry_start k g + entry_size k g ≤ j)
    is_outside j not_in =
        elim (cases_lt j (entry_start k g)) [
          | inl before ↦ inl before
          | inr from ↦ elim (cases_lt j (entry_start k g + entry_size k g)) [
            | inl here ↦
                absurd (not_in from here)
            | inr after ↦ inr after
          ]
        ]

    holder_in : (j : ℕ) → entry_start k g ≤ j → j < entry_start k g + entry_size k g → holder k j ≡ g
    holder_in j from here =
        let at : entry_start k g + (j - entry_start k g) ≡ j = omega arith in
        ap (holder k) (sym at) ∙ (is_byte_of k n g (j - entry_start k g) some few low (omega arith)).holder

    -- no byte of a glyph
    byte_of_none : (j : ℕ) → j < length t → is_entry k n j ≡ false → get_or new j 0 ≡ filled_byte keeps k n t next j
    byte_of_none j small f =
        elim (cases_lt j (entry_start k g)) [
          | inl before ↦ copied.outside j (inl before) ∙ was_byte j small ∙ byte_other keeps k n t g j f
          | inr from ↦ elim (cases_lt j (entry_start k g + entry_size k g)) [
            | inl here ↦ copied.inside j from here
            | inr after ↦ copied.outside j (inr after) ∙ was_byte j small ∙ byte_other keeps k n t g j f
          ]
        ]
        ∙ sym (byte_other keeps k n t next j f)

    -- a byte of this glyph
    byte_of_this : (j : ℕ) → is_entry k n j ≡ true → holder k j ≡ g → get_or new j 0 ≡ filled_byte keeps k n t next j
    byte_of_this j e same =
        let place = is_place k n j few e in
        let at : entry_start k g + place_in_entry k j ≡ j =
        ap (λ (x : ℕ). entry_start k x + place_in_entry k j) (sym same) ∙ place.at in
        let small : place_in_entry k j < entry_size k g =
        subst (λ (x : ℕ). place_in_entry k j < entry_size k x) same place.small in
        copied.inside j (omega arith) (omega arith)
        ∙ sym (byte_below keeps k n t next j (omega arith)
        ∙ (λ i. cond (e i && not ((ap keeps same ∙ kept) i)) 0 (get_or t j 0)))

    -- a byte of another glyph
    byte_of_other : (j : ℕ) → j < length t → is_entry k n j ≡ true → (holder k j < g) ⊎ (g < holder k j)
        → get_or new j 0 ≡ filled_byte keeps k n t next j
    byte_of_other j small e other =
        copied.outside j (is_outside j (λ from here. let same = holder_in j from here in
        elim other [ inl a ↦ omega arith | inr b ↦ omega arith ]))
        ∙ was_byte j small
        ∙ elim other [
          | inl below ↦ byte_below keeps k n t g j below ∙ sym (byte_below keeps k n t next j (omega arith))
          | inr above ↦
              byte_above keeps k n t g j e (omega arith)
              ∙ sym (elim (cases_lt (holder k j) next) [
                | inl soon ↦ byte_dropped keeps k n t next j e (none (holder k j) (omega arith) soon)
                | inr late ↦ byte_above keeps k n t next j e late
              ])
        ]

    byte-more : (j : ℕ) → j < length t → get_or new j 0 ≡ filled_byte keeps k n t next j
    byte-more j small =
        elim (cases_Bool (is_entry k n j)) [
          | inr f ↦ byte_of_none j small f
          | inl e ↦ elim (cases_lt (holder k j) g) [
            | inl below ↦ byte_of_other j small e (inl below)
            | inr from ↦ elim (cases_lt g (holder k j)) [
              | inl above ↦ byte_of_other j small e (inr above)
              | inr same ↦
                  byte_of_this j e (omega arith)
            ]
          ]
        ]

    pub filled-more : new ≡ filled keeps k n t next
    filled-more =
        let size = length-cleared (λ h. keeps h && nat_lt h next) k n t in
        let size' = length-cleared (λ h. keeps h && nat_lt h g) k n t in
        let same : length new ≡ length t = copied.count ∙ ap (λ (l : List ℕ). length l) was ∙ size' in
        ext_get_or 0 new _ (omega arith) (λ j small. byte-more j (omega arith)
        ∙ sym (get_or-cleared (λ h. keeps h && nat_lt h next) k n t j (omega arith)))

-- `post` with another version, and no names
pub thin_post_is : (post made : List ℕ) → 32 ≤ length post → made ≡ bytes32 0x00030000 ++ drop 4 (take 32 post)
    → made ≡ thin_post post
unfolding thin_post
thin_post_is post made long is =
    let f : nat_lt (length post) 32 ≡ false = le-ltb (length post) 32 long in
    is ∙ ap (λ (l : List ℕ). bytes32 0x00030000 ++ l) (drop-take 4 28 post) ∙ sym (rw f refl)

-- a table has the bytes of the glyphs that a content keeps below a place, which is a kept glyph or past all
pub record AreFilled (K : Content) (k : ℕ) (t bytes : List ℕ) (stop : ℕ) : Type 0 where
  pub is : bytes ≡ filled (λ h. is_some (K.outline h)) k (glyph_count K.copied) t stop
  pub within : stop ≤ glyph_count K.copied
  pub kept : stop < glyph_count K.copied → IsSome (K.outline stop)

module _ (K : Content) (k : ℕ) (t : List ℕ) where
  abbrev n : ℕ
  n = glyph_count K.copied

  pub filled_start : (bytes : List ℕ) (count g : ℕ) → count ≡ n → bytes ≡ blank k count t → IsNextKept K 0 g
      → AreFilled K k t bytes g
  filled_start bytes count g same is next = record {
    is = is ∙ ap (λ (x : ℕ). blank k x t) same
        ∙ sym (filled-none (λ h. is_some (K.outline h)) k n t g
        (λ h low. ap is_some (next.passed h (omega arith) low)));
    within = next.within;
    kept = next.kept;
  }

  pub filled_step : (old new : List ℕ) (g place next : ℕ) → 0 < k → k ≤ n → g < n → place ≡ g → AreFilled K k t old g
      → AreCopied t (entry_start k place) (entry_size k place) old new → IsNextKept K (g + 1) next
      → AreFilled K k t new next
  filled_step old new g place next some few low same are copied to = record {
    is = filled-more (λ h. is_some (K.outline h)) k n t old new g next some few low (are.kept low)
        (let from = to.from_on in omega arith) (λ h from below. ap is_some (to.passed h from below)) are.is
        (subst (λ (x : ℕ). AreCopied t (entry_start k x) (entry_size k x) old new) same copied);
    within = to.within;
    kept = to.kept;
  }

  pub filled_end : (bytes : List ℕ) (g : ℕ) → k ≤ n → n ≤ g → AreFilled K k t bytes g
      → bytes ≡ cleared (λ h. is_some (K.outline h)) k n t
  filled_end bytes g few past are = are.is ∙ filled-all (λ h. is_some (K.outline h)) k n t g few past

-- the bytes of a glyph stand in the table
pub entry_room : (k n g : ℕ) (t : List ℕ) → 0 < k → k ≤ n → g < n → 2 * (k + n) ≤ length t
    → entry_start k g + entry_size k g ≤ length t
unfolding entry_start entry_size
entry_room k n g t some few low room =
    let ne : nat_eq k 0 ≡ false = ne_eqb k 0 (λ e. omega arith) in
    elim (cases_lt (g + 1) k) [
      | inl pair ↦ let c = lt-ltb (g + 1) k pair in rw (ne, c) (omega arith)
      | inr late ↦ let c = le-ltb (g + 1) k late in rw (ne, c) (omega arith)
    ]

-- a table without pairs stays
pub cleared-none : (keeps : ℕ → Bool) (n : ℕ) (t : List ℕ) → cleared keeps 0 n t ≡ t
unfolding is_entry
cleared-none keeps n t =
    let size = length-cleared keeps 0 n t in
    ext_get_or 0 (cleared keeps 0 n t) t size (λ j low. get_or-cleared keeps 0 n t j (omega arith))

pub blank-none : (n : ℕ) (t : List ℕ) → blank 0 n t ≡ t
unfolding is_entry
blank-none n t = ext_get_or 0 (blank 0 n t) t (length-blank 0 n t) (λ j low. get_or-blank 0 n t j)

-- one that is too short stays
pub thin_nowhere : (table : Option (List ℕ)) (post : List ℕ) → table ≡ Some post → length post < 32
    → table ≡ option_map thin_post table
thin_nowhere table post there short =
    there ∙ sym (ap (option_map thin_post) there ∙ ap Some (thin_post-short post short))
