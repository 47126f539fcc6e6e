-- Lists of outlines by glyph.
use Rattle.std.proofs.Common.{◌≡◌, ◌≢◌, ◌⊎◌, ℕ, zero, suc, ◌+◌, ◌*◌, ◌^◌, ◌<◌, ◌≤◌, Bool, List, [], ◌∷◌, false, find}
use Rattle.std.proofs.Common.{length, length-append, map, replicate, slice_set, Option, None, Some, IfSome, MatchOption}
use Rattle.std.proofs.Common.{refl, sym, ap, ◌∙◌, subst, arith, inl, inr}
use Rattle.std.specs.List.{concat, range_with_len}
use Rattle.std.specs.Option.{option_map, option_or, unwrap_or}
use Rattle.font_glyph.specs.RecordMap.{record_in}
use Rattle.font_theory.specs.Content.{Content}
use Rattle.font_theory.specs.Difference.{are_different}
use Rattle.font_write.specs.Parts.{glyf_to}
use Rattle.std.proofs.lemmas.List.{length-map, length-replicate, length-set}
use Rattle.font_theory.specs.Bytes.{padded}
use Rattle.std.proofs.lemmas.Bool.{cases_eq, cases_lt}
use Rattle.sfnt_bytes.specs.declared.directory.TheConstants.{MAX_FILE}
use Rattle.font_glyph.specs.RecordMap.{Records, union_of}
use Rattle.font_theory.specs.Content.{content, everything, glyph_count}
use Rattle.font_theory.specs.Cut.{IsCut}
use Rattle.font_theory.specs.Kinds.{font_of, format_of, tables_of}
use Rattle.font_theory.specs.declared.kinds.Kind.{Kind}
use Rattle.font_theory.proofs.ContentLemmas.{IsClosed-content}
use Rattle.font_theory.proofs.KindLemmas.{kind_is}
use Rattle.font_subset.proofs.SourceLemmas.{is_font}
use Rattle.font_theory.proofs.WritableLemmas.{IsWritable-closed}
use Rattle.font_join.specs.Union.{HaveLength, AreSmall, is_other, listed_outline, outlines_length}
use Rattle.font_join.specs.Inside.{AreTaken}
use Rattle.font_join.proofs.FirstLemmas.{first_absent}

-- past the last glyph there is none
pub outline_in_past : (outlines : List (Option (List ℕ))) (g : ℕ) → length outlines ≤ g
    → listed_outline outlines g ≡ None
outline_in_past [] g h = refl
outline_in_past (o ∷ os) zero h = absurd (omega (arith, h))
outline_in_past (o ∷ os) (suc g) h = outline_in_past os g (omega (arith, h))

-- one that is set, and the others
pub outline_in_set : (outlines : List (Option (List ℕ))) (g : ℕ) (o : Option (List ℕ)) → g < length outlines
    → listed_outline (slice_set outlines g o) g ≡ o
outline_in_set [] g o h = absurd (omega (arith, h))
outline_in_set (x ∷ xs) zero o h = refl
outline_in_set (x ∷ xs) (suc g) o h = outline_in_set xs g o (omega (arith, h))

pub outline_in_other : (outlines : List (Option (List ℕ))) (g h : ℕ) (o : Option (List ℕ)) → h ≢ g
    → listed_outline (slice_set outlines g o) h ≡ listed_outline outlines h
outline_in_other [] g h o n = refl
outline_in_other (x ∷ xs) zero zero o n = absurd (n refl)
outline_in_other (x ∷ xs) zero (suc h) o n = refl
outline_in_other (x ∷ xs) (suc g) zero o n = refl
outline_in_other (x ∷ xs) (suc g) (suc h) o n = outline_in_other xs g h o (λ e. n (ap suc e))

pub small_set : (outlines : List (Option (List ℕ))) (g : ℕ) (b : List ℕ) → g < length outlines → length b ≤ MAX_FILE
    → AreSmall outlines → AreSmall (slice_set outlines g (Some b))
small_set outlines g b low small all h = elim (cases_eq h g) [
  | inl e ↦ subst (λ (k : ℕ). IfSome (listed_outline (slice_set outlines g (Some b)) k) (λ x. length x ≤ MAX_FILE))
      (sym e)
      (subst (λ (o : Option (List ℕ)). IfSome o (λ x. length x ≤ MAX_FILE))
      (sym (outline_in_set outlines g (Some b) low)) small)
  | inr n ↦ subst (λ (o : Option (List ℕ)). IfSome o (λ x. length x ≤ MAX_FILE))
      (sym (outline_in_other outlines g h (Some b) n)) (all h)
]

-- the union with records, at one number
pub union_of_none : (K L : Records) (g : ℕ) → K g ≡ None → union_of K L g ≡ L g
union_of_none K L g e = ap (λ (o : Option (List ℕ)). option_or o (L g)) e

option_or-none : (o : Option (List ℕ)) → option_or o None ≡ o
option_or-none None = refl
option_or-none (Some b) = refl

pub union_of_absent : (K L : Records) (g : ℕ) → L g ≡ None → union_of K L g ≡ K g
union_of_absent K L g e = ap (λ (o : Option (List ℕ)). option_or (K g) o) e ∙ option_or-none (K g)

pub taken_none : (old : List (Option (List ℕ))) (L : Records) → AreTaken old old L 0
taken_none old L = record { count = refl; below = λ g h. absurd (omega (arith, h)); above = λ g h. refl }

pub taken_more : (old now new : List (Option (List ℕ))) (L : Records) (n : ℕ) → AreTaken old now L n
    → length new ≡ length now → listed_outline new n ≡ union_of (listed_outline now) L n
    → ((h : ℕ) → h ≢ n → listed_outline new h ≡ listed_outline now h) → AreTaken old new L (n + 1)
taken_more old now new L n before count taken others =
    record {
      count = count ∙ before.count;
      below = λ g h. elim (cases_eq g n) [
        | inl e ↦ subst (λ (k : ℕ). listed_outline new k ≡ union_of (listed_outline old) L k) (sym e)
            (taken ∙ ap (λ (o : Option (List ℕ)). option_or o (L n)) (before.above n (omega arith)))
        | inr d ↦ others g d ∙ before.below g (omega (arith, h, d))
      ];
      above = λ g h. others g (λ e. omega (arith, e, h)) ∙ before.above g (omega (arith, h));
    }

-- a glyph that is not taken yet is distinguished by its mark from that of the beginning
pub other_now : (old now : List (Option (List ℕ))) (L : Records) (n : ℕ) (b : Bool) → AreTaken old now L n
    → b ≡ is_other (listed_outline now) L n → b ≡ is_other (listed_outline old) L n
other_now old now L n b are e = e ∙ ap (λ (o : Option (List ℕ)). are_different o (L n) false) (are.above n (omega
    arith))

pub taken_all : (old now : List (Option (List ℕ))) (L : Records) (n : ℕ) → AreTaken old now L n → length old ≡ n
    → ((g : ℕ) → n ≤ g → L g ≡ None) → (g : ℕ) → listed_outline now g ≡ union_of (listed_outline old) L g
taken_all old now L n are count past g = elim (cases_lt g n) [
  | inl low ↦ are.below g low
  | inr high ↦ are.above g high ∙ sym (union_of_absent (listed_outline old) L g (past g high))
]

-- glyphs that a file does not keep may be passed over
pub taken_skip : (old now : List (Option (List ℕ))) (L : Records) (n m : ℕ) → n ≤ m
    → ((g : ℕ) → n ≤ g → g < m → L g ≡ None) → AreTaken old now L n → AreTaken old now L m
taken_skip old now L n m from none are = record {
  count = are.count;
  below = λ g h. elim (cases_lt g n) [
    | inl low ↦ are.below g low
    | inr high ↦ are.above g high ∙ sym (union_of_absent (listed_outline old) L g (none g high h))
  ];
  above = λ g h. are.above g (omega (arith, h, from));
}

-- past the end of the list there is nothing to take
pub taken_within : (old now : List (Option (List ℕ))) (L : Records) (n m : ℕ) → m ≤ n → length old ≡ m
    → AreTaken old now L n → AreTaken old now L m
taken_within old now L n m low count are = record {
  count = are.count;
  below = λ g h. are.below g (omega (arith, h, low));
  above = λ g h. outline_in_past now g (omega (arith, h, count, are.count))
      ∙ sym (outline_in_past old g (omega (arith, h, count)));
}

pub taken_end : (old now : List (Option (List ℕ))) (L : Records) (n m k : ℕ) → length old ≡ m
    → ((g : ℕ) → k ≤ g → L g ≡ None) → (m ≤ n) ⊎ (k ≤ n) → AreTaken old now L n → AreTaken old now L m
taken_end old now L n m k count past end are = elim (cases_lt n m) [
  | inr high ↦ taken_within old now L n m high count are
  | inl low ↦ elim end [
    | inl high ↦ absurd (omega (arith, low, high))
    | inr from ↦ taken_skip old now L n m (omega (arith, low)) (λ g a b. past g (omega (arith, a, from))) are
  ]
]

-- a glyph that a file does not keep has no other outline there
pub other_absent : (K L : Records) (g : ℕ) → L g ≡ None → is_other K L g ≡ false
other_absent K L g none = ap (λ (o : Option (List ℕ)). are_different (K g) o false) none ∙ none_other (K g)
  where
    none_other : (o : Option (List ℕ)) → are_different o None false ≡ false
    none_other None = refl
    none_other (Some b) = refl

pub other_end : (K L : Records) (n m k : ℕ) → ((g : ℕ) → k ≤ g → L g ≡ None) → (m ≤ n) ⊎ (k ≤ n)
    → ((g : ℕ) → g < n → is_other K L g ≡ false) → None ≡ find (is_other K L) (range_with_len 0 m)
other_end K L n m k past end below = sym (first_absent (is_other K L) m (λ g low. elim (cases_lt g n) [
  | inl less ↦ below g less
  | inr high ↦ elim end [
    | inl out ↦ absurd (omega (arith, low, high, out))
    | inr from ↦ other_absent K L g (past g (omega (arith, high, from)))
  ]
]))

-- a file in cut form keeps no glyph past its count
pub whole_past : (kind : Kind) (X : List ℕ) → IsCut (format_of kind) X → (g : ℕ) → glyph_count (tables_of kind X) ≤ g
    → (content (font_of kind X) everything).outline g ≡ None
whole_past kind X form g h =
    (IsWritable-closed _ (IsClosed-content (font_of kind X) everything (is_font kind X (sym ((kind_is kind).fault_is X)
    ∙ form.accepted)))).past g h

pub taken_whole : (old now : List (Option (List ℕ))) (kind : Kind) (X : List ℕ) (n : ℕ) → IsCut (format_of kind) X
    → n ≡ glyph_count (tables_of kind X) → length old ≡ n
    → AreTaken old now (content (font_of kind X) everything).outline n
    → (g : ℕ) → listed_outline now g ≡ union_of (listed_outline old) (content (font_of kind X) everything).outline g
taken_whole old now kind X n form e count are = taken_all old now (content (font_of kind X) everything).outline n are
    count (λ g h. whole_past kind X form g (omega (arith, h, e)))

pub outline_none : {X : Type 0} (f : X → Option (List ℕ)) (x : X) → f x ≡ None → (n g : ℕ)
    → listed_outline (map f (replicate n x)) g ≡ None
outline_none f x e zero g = refl
outline_none f x e (suc n) zero = e
outline_none f x e (suc n) (suc g) = outline_none f x e n g

pub map_set : {X : Type 0} (f : X → Option (List ℕ)) (xs : List X) (i : ℕ) (x : X)
    → map f (slice_set xs i x) ≡ slice_set (map f xs) i (f x)
map_set f [] i x = refl
map_set f (y ∷ ys) zero x = refl
map_set f (y ∷ ys) (suc i) x = ap (λ (l : List (Option (List ℕ))). f y ∷ l) (map_set f ys i x)

pub filled_by : {X : Type 0} (bytes : X → List ℕ) (r : Option X) (o : Option (List ℕ)) → option_map bytes r ≡ o
    → ((b : List ℕ) → o ≡ Some b → padded b ≡ b) → MatchOption r (Unit {0}) (λ x. padded (bytes x) ≡ bytes x)
filled_by bytes None o e h = tt
filled_by bytes (Some x) o e h = h (bytes x) (sym e)

-- what is added to the length of all outlines
pub outlines_length-set : (outlines : List (Option (List ℕ))) (g : ℕ) (b : List ℕ) → g < length outlines
    → listed_outline outlines g ≡ None → outlines_length (slice_set outlines g (Some b)) ≡ outlines_length outlines
    + length b
unfolding outlines_length
outlines_length-set [] g b h e = absurd (omega (arith, h))
outlines_length-set (o ∷ os) zero b h e =
    let none : length (unwrap_or o []) ≡ 0 = ap (λ (x : Option (List ℕ)). length (unwrap_or x [])) e in
    omega (arith, none)
outlines_length-set (o ∷ os) (suc g) b h e = omega (arith, outlines_length-set os g b (omega (arith, h)) e)

-- and the most that it can be
small_first : (o : Option (List ℕ)) → IfSome o (λ b. length b ≤ MAX_FILE) → length (unwrap_or o []) ≤ MAX_FILE
small_first None h = omega arith
small_first (Some b) h = h

pub outlines_length-most : (outlines : List (Option (List ℕ))) → AreSmall outlines → outlines_length outlines
    ≤ MAX_FILE * length outlines
unfolding outlines_length
outlines_length-most [] h = omega arith
outlines_length-most (o ∷ os) h = omega (arith, small_first o (h 0), outlines_length-most os (λ g. h (suc g)))

pub bytes_few : (outlines : List (Option (List ℕ))) (bytes n : ℕ) → HaveLength outlines bytes → n ≤ MAX_FILE
    → bytes + n < 2 ^ 64
bytes_few outlines bytes n ok small = omega (arith, ok.few, ok.counted, outlines_length-most outlines ok.small, small)

pub counted_set : (outlines : List (Option (List ℕ))) (bytes g : ℕ) (b : List ℕ) → HaveLength outlines bytes
    → g < length outlines → listed_outline outlines g ≡ None → length b ≤ MAX_FILE
    → HaveLength (slice_set outlines g (Some b)) (bytes + length b)
counted_set outlines bytes g b ok low none small =
    record {
      few = subst (λ (n : ℕ). n < 65536) (sym (length-set outlines g (Some b))) ok.few;
      small = small_set outlines g b low small ok.small;
      counted = omega (arith, ok.counted, outlines_length-set outlines g b low none);
    }

outlines_length-none : {X : Type 0} (f : X → Option (List ℕ)) (x : X) → f x ≡ None → (n : ℕ)
    → outlines_length (map f (replicate n x)) ≡ 0
unfolding outlines_length
outlines_length-none f x e zero = refl
outlines_length-none f x e (suc n) = let none : length (unwrap_or (f x) []) ≡ 0 =
    ap (λ (o : Option (List ℕ)). length (unwrap_or o [])) e in omega (arith, none, outlines_length-none f x e n)

pub counted_none : {X : Type 0} (f : X → Option (List ℕ)) (x : X) → f x ≡ None → (n : ℕ) → n < 65536
    → HaveLength (map f (replicate n x)) 0
counted_none f x e n low =
    record {
      few = omega (arith, low, length-map (replicate n x) f, length-replicate n x);
      small = λ g. subst (λ (o : Option (List ℕ)). IfSome o (λ b. length b ≤ MAX_FILE)) (sym (outline_none f x e n g))
          tt;
      counted = sym (outlines_length-none f x e n);
    }

-- an outline that is found is not too large
pub small_by : {X : Type 0} (bytes : X → List ℕ) (r : Option X) (o : Option (List ℕ)) → option_map bytes r ≡ o
    → IfSome o (λ b. length b ≤ MAX_FILE) → MatchOption r (Unit {0}) (λ x. length (bytes x) ≤ MAX_FILE)
small_by bytes None o e h = tt
small_by bytes (Some x) o e h = subst (λ (o : Option (List ℕ)). IfSome o (λ b. length b ≤ MAX_FILE)) (sym e) h

-- the outlines of a file written end to end
length-outlines : (f : ℕ → Option (List ℕ)) (outlines : List (Option (List ℕ))) (k : ℕ)
    → ((j : ℕ) → f (k + j) ≡ listed_outline outlines j)
    → length (concat (map (record_in f) (range_with_len k (length outlines)))) ≡ outlines_length outlines
unfolding outlines_length
length-outlines f [] k h = refl
length-outlines f (o ∷ os) k h =
    let first : record_in f k ≡ unwrap_or o [] = ap (λ (j : ℕ). record_in f j) (omega arith)
    ∙ ap (λ (x : Option (List ℕ)). unwrap_or x []) (h 0) in
    let rest = length-outlines f os (k + 1) (λ j. ap f (omega arith) ∙ h (suc j)) in
    let both = length-append (record_in f k) (concat (map (record_in f) (range_with_len (k + 1) (length os)))) in
    omega (arith, ap (λ (b : List ℕ). length b) first, rest, both)

pub length-glyf_to : (K : Content) (outlines : List (Option (List ℕ))) → K.outline ≡ listed_outline outlines
    → length (glyf_to K (length outlines)) ≡ outlines_length outlines
unfolding glyf_to
length-glyf_to K outlines e = length-outlines K.outline outlines 0 (λ j. let z : 0 + j ≡ j = omega arith in
    ap K.outline z ∙ (λ i. e i j))
