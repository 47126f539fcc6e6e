-- Where the metrics of a glyph stand in a table, and tables with the metrics of glyphs.
use Rattle.std.proofs.Common.{◌≡◌, ℕ, zero, suc, ◌+◌, ◌-◌, ◌*◌, ◌<◌, ◌≤◌, Bool, true, false, cond, nat_eq, nat_lt}
use Rattle.std.proofs.Common.{nat_le, not, ◌&&◌, ◌||◌, ◌/◌, ◌⊎◌, inl, inr, List, [], length, get_or, map, replicate}
use Rattle.std.proofs.Common.{refl}
use Rattle.std.proofs.Common.{sym, ◌∙◌, ap, arith}
use Rattle.std.proofs.Math.Path.{fun_ext}
use Rattle.std.specs.List.{range_with_len}
use Rattle.std.proofs.lemmas.Bool.{and_parts, cases_lt, le-leb, le-ltb, leb-true, lt-ltb, ltb-true, ne_eqb}
use Rattle.std.proofs.lemmas.Bool.{or_cases}
use Rattle.std.proofs.lemmas.Bool.Decides.{nat_tests}
use Rattle.std.proofs.lemmas.List.{ext_get_or, get_or_past}
use Rattle.std.proofs.lemmas.List.FromFn.{get_or-map-range_with_len, length-map-range_with_len}
use Rattle.codes.proofs.MapLemmas.{same_cond}
use Rattle.font_theory.specs.Parted.{blank, cleared, entry_size, entry_start, holder, is_entry, laid, metric_bytes}
use Rattle.font_theory.specs.Parted.{place_in_entry}

-- byte i of glyph g is of that glyph
pub record IsByteOf (k n g i j : ℕ) : Type 0 where
  pub is_entry : is_entry k n j ≡ true
  pub holder : holder k j ≡ g
  pub within : place_in_entry k j ≡ i
  pub inside : j < 2 * (k + n)

is_pair : (k n g i : ℕ) → 0 < k → k ≤ n → g < n → g + 1 < k → i < 4 → IsByteOf k n g i (4 * g + i)
unfolding is_entry holder place_in_entry
is_pair k n g i some few low pair small =
    let low' : nat_lt (4 * g + i + 4) (4 * k) ≡ true = lt-ltb _ _ (omega arith) in
    let inside : nat_lt (4 * g + i) (2 * (k + n)) ≡ true = lt-ltb _ _ (omega arith) in
    let ne : nat_eq k 0 ≡ false = ne_eqb k 0 (λ e. omega arith) in
    record {
      is_entry = rw (ne, inside, low') refl;
      holder = rw low' (omega arith);
      within = rw low' (omega arith);
      inside = omega arith;
    }

is_bearing : (k n g i : ℕ) → 0 < k → k ≤ n → g < n → k ≤ g + 1 → i < 2 → IsByteOf k n g i (2 * (k + g) + i)
unfolding is_entry holder place_in_entry
is_bearing k n g i some few low late small =
    let high : nat_lt (2 * (k + g) + i + 4) (4 * k) ≡ false = le-ltb _ _ (omega arith) in
    let far : nat_le (4 * k) (2 * (k + g) + i + 2) ≡ true = le-leb _ _ (omega arith) in
    let inside : nat_lt (2 * (k + g) + i) (2 * (k + n)) ≡ true = lt-ltb _ _ (omega arith) in
    let ne : nat_eq k 0 ≡ false = ne_eqb k 0 (λ e. omega arith) in
    record {
      is_entry = rw (ne, inside, high, far) refl;
      holder = rw high (omega arith);
      within = rw high (omega arith);
      inside = omega arith;
    }

pub is_byte_of : (k n g i : ℕ) → 0 < k → k ≤ n → g < n → i < entry_size k g → IsByteOf k n g i (entry_start k g + i)
unfolding entry_size entry_start
is_byte_of k n g i some few low small =
    let ne : nat_eq k 0 ≡ false = ne_eqb k 0 (λ e. omega arith) in
    elim (cases_lt (g + 1) k) [
      | inl pair ↦
          let t = lt-ltb (g + 1) k pair in
          let small' = rw (ne, t) at small in
          rw t (is_pair k n g i some few low pair small')
      | inr late ↦
          let f = le-ltb (g + 1) k late in
          let small' = rw (ne, f) at small in
          rw f (is_bearing k n g i some few low late small')
    ]

-- byte j of a table with the bytes of glyphs
abbrev pub laid_byte : (ℕ → List ℕ) → ℕ → ℕ → List ℕ → ℕ → ℕ
laid_byte parts k n t j = cond (is_entry k n j) (get_or (parts (holder k j)) (place_in_entry k j) 0) (get_or t j 0)

pub length-laid : (parts : ℕ → List ℕ) (k n : ℕ) (t : List ℕ) → length (laid parts k n t) ≡ length t
unfolding laid
length-laid parts k n t = length-map-range_with_len (laid_byte parts k n t) 0 (length t)

pub get_or-laid : (parts : ℕ → List ℕ) (k n : ℕ) (t : List ℕ) (j : ℕ) → j < length t
    → get_or (laid parts k n t) j 0 ≡ laid_byte parts k n t j
unfolding laid
get_or-laid parts k n t j low = get_or-map-range_with_len (laid_byte parts k n t) 0 (length t) j j 0 low (omega arith)

-- the bytes of glyphs take the place of those that stood there
pub laid-laid : (parts before : ℕ → List ℕ) (k n : ℕ) (t : List ℕ) → laid parts k n (laid before k n t)
    ≡ laid parts k n t
laid-laid parts before k n t =
    let size = length-laid before k n t in
    let size' = length-laid parts k n (laid before k n t) in
    let size'' = length-laid parts k n t in
    ext_get_or 0 _ _ (omega arith) (λ j low. get_or-laid parts k n (laid before k n t) j (omega arith)
    ∙ ap (cond (is_entry k n j) (get_or (parts (holder k j)) (place_in_entry k j) 0))
    (get_or-laid before k n t j (omega arith))
    ∙ go (is_entry k n j) (get_or (parts (holder k j)) (place_in_entry k j) 0)
    (get_or (before (holder k j)) (place_in_entry k j) 0)
    (get_or t j 0)
    ∙ sym (get_or-laid parts k n t j (omega arith)))
  where
    go : (b : Bool) (x y z : ℕ) → cond b x (cond b y z) ≡ cond b x z
    go true x y z = refl
    go false x y z = refl

-- where there are pairs, they and the bearings of n glyphs stand in the table
pub record AreThere (k n : ℕ) (t : List ℕ) : Type 0 where
  pub few : 0 < k → k ≤ n
  pub room : 0 < k → 2 * (k + n) ≤ length t

pub entry_size-some : (k g i : ℕ) → i < entry_size k g → 0 < k
unfolding entry_size
entry_size-some zero g i low = absurd (omega (arith, low))
entry_size-some (suc k) g i low = omega arith

pub entry_size-four : (k g : ℕ) → entry_size k g ≤ 4
unfolding entry_size
entry_size-four k g = grind (arith, nat_tests)

-- four bytes by a rule, with zeros for those that are not of the glyph
abbrev pub four : ℕ → ℕ → (ℕ → ℕ) → List ℕ
four k g byte = map (λ i. cond (nat_lt i (entry_size k g)) (byte i) 0) (range_with_len 0 4)

pub four-same : (k g : ℕ) (a b : ℕ → ℕ) → ((i : ℕ) → i < entry_size k g → a i ≡ b i) → four k g a ≡ four k g b
four-same k g a b h = ap (λ f. map f (range_with_len 0 4)) (fun_ext (λ i. go i (cases_lt i (entry_size k g))))
  where
    go : (i : ℕ) → ((i < entry_size k g) ⊎ (entry_size k g ≤ i)) → cond (nat_lt i (entry_size k g)) (a i) 0
        ≡ cond (nat_lt i (entry_size k g)) (b i) 0
    go i (inl low) = let t = lt-ltb i (entry_size k g) low in rw t (h i low)
    go i (inr high) = let f = le-ltb i (entry_size k g) high in rw f refl

pub four-zero : (k g : ℕ) → four k g (λ i. 0) ≡ replicate 4 0
four-zero k g = ap (λ f. map f (range_with_len 0 4)) (fun_ext (λ i. same_cond (nat_lt i (entry_size k g)) 0))

pub metric_bytes-is : (k : ℕ) (t : List ℕ) (g : ℕ) → metric_bytes k t g
    ≡ four k g (λ i. get_or t (entry_start k g + i) 0)
unfolding metric_bytes
metric_bytes-is k t g = refl

pub length-metric_bytes : (k : ℕ) (t : List ℕ) (g : ℕ) → length (metric_bytes k t g) ≡ 4
unfolding metric_bytes
length-metric_bytes k t g = refl

pub get_or-four : (k g : ℕ) (byte : ℕ → ℕ) (i : ℕ) → i < entry_size k g → get_or (four k g byte) i 0 ≡ byte i
get_or-four k g byte i low =
    let small = entry_size-four k g in
    let t = lt-ltb i (entry_size k g) low in
    get_or-map-range_with_len (λ i. cond (nat_lt i (entry_size k g)) (byte i) 0) 0 4 i i 0 (omega arith) (omega arith)
    ∙ ap (λ b. cond b (byte i) 0) t

-- a table with the bytes of glyphs has them for each glyph
pub metric_bytes-laid : (parts : ℕ → List ℕ) (k n : ℕ) (t : List ℕ) (g : ℕ) → AreThere k n t → g < n
    → metric_bytes k (laid parts k n t) g ≡ four k g (λ i. get_or (parts g) i 0)
metric_bytes-laid parts k n t g there low =
    metric_bytes-is k (laid parts k n t) g
    ∙ four-same k g _ _ (λ i h.
    let some = entry_size-some k g i h in
    let b = is_byte_of k n g i some (there.few some) low h in
    let room = there.room some in
    let inside = b.inside in
    get_or-laid parts k n t (entry_start k g + i) (omega arith)
    ∙ (λ p. cond (b.is_entry p) (get_or (parts (b.holder p)) (b.within p) 0) (get_or t (entry_start k g + i) 0)))

-- a byte that is of one glyph stands where that glyph's bytes do
pub record IsPlace (k n j : ℕ) : Type 0 where
  pub low : holder k j < n
  pub small : place_in_entry k j < entry_size k (holder k j)
  pub at : entry_start k (holder k j) + place_in_entry k j ≡ j

place-pair : (k n j : ℕ) → 0 < k → k ≤ n → j + 4 < 4 * k → IsPlace k n j
unfolding holder place_in_entry entry_size entry_start
place-pair k n j some few pair =
    let t : nat_lt (j + 4) (4 * k) ≡ true = lt-ltb _ _ pair in
    let t' : nat_lt (j / 4 + 1) k ≡ true = lt-ltb _ _ (omega arith) in
    let ne : nat_eq k 0 ≡ false = ne_eqb k 0 (λ e. omega arith) in
    record { low = rw t (omega arith); small = rw (t, ne, t') (omega arith); at = rw (t, t') (omega arith) }

place-bearing : (k n j : ℕ) → 0 < k → k ≤ n → j < 2 * (k + n) → 4 * k ≤ j + 2 → IsPlace k n j
unfolding holder place_in_entry entry_size entry_start
place-bearing k n j some few inside late =
    let f : nat_lt (j + 4) (4 * k) ≡ false = le-ltb _ _ (omega arith) in
    let f' : nat_lt ((j - 2 * k) / 2 + 1) k ≡ false = le-ltb _ _ (omega arith) in
    let ne : nat_eq k 0 ≡ false = ne_eqb k 0 (λ e. omega arith) in
    record { low = rw f (omega arith); small = rw (f, ne, f') (omega arith); at = rw (f, f') (omega arith) }

pub is_place : (k n j : ℕ) → k ≤ n → is_entry k n j ≡ true → IsPlace k n j
unfolding is_entry
is_place k n j few e =
    let w = and_parts (not (nat_eq k 0)) (nat_lt j (2 * (k + n)) && (nat_lt (j + 4) (4 * k) || nat_le (4 * k) (j + 2)))
    e in
    let v = and_parts (nat_lt j (2 * (k + n))) (nat_lt (j + 4) (4 * k) || nat_le (4 * k) (j + 2)) w.1 in
    let inside : j < 2 * (k + n) = ltb-true _ _ v.0 in
    let some : 0 < k = positive k w.0 in
    elim (or_cases (nat_lt (j + 4) (4 * k)) (nat_le (4 * k) (j + 2)) v.1) [
      | inl pair ↦ let p : j + 4 < 4 * k = ltb-true _ _ pair in place-pair k n j some few p
      | inr late ↦ let p : 4 * k ≤ j + 2 = leb-true _ _ late in place-bearing k n j some few inside p
    ]
  where
    positive : (x : ℕ) → not (nat_eq x 0) ≡ true → 0 < x
    positive zero h = cc
    positive (suc x) h = omega arith

pub entry-some : (k n j : ℕ) → is_entry k n j ≡ true → 0 < k
unfolding is_entry
entry-some zero n j h = cc
entry-some (suc k) n j h = omega arith

pub length-cleared : (keeps : ℕ → Bool) (k n : ℕ) (t : List ℕ) → length (cleared keeps k n t) ≡ length t
unfolding cleared
length-cleared keeps k n t =
    length-map-range_with_len (λ j. cond (is_entry k n j && not (keeps (holder k j))) 0 (get_or t j 0)) 0 (length t)

pub get_or-cleared : (keeps : ℕ → Bool) (k n : ℕ) (t : List ℕ) (j : ℕ) → j < length t → get_or (cleared keeps k n t) j 0
    ≡ cond (is_entry k n j && not (keeps (holder k j))) 0 (get_or t j 0)
unfolding cleared
get_or-cleared keeps k n t j low =
    get_or-map-range_with_len (λ j. cond (is_entry k n j && not (keeps (holder k j))) 0 (get_or t j 0)) 0 (length t) j j
    0 low (omega arith)

-- a table with zeros for the bytes of each glyph
pub length-blank : (k n : ℕ) (t : List ℕ) → length (blank k n t) ≡ length t
length-blank k n t = length-laid (λ _. []) k n t

pub get_or-blank : (k n : ℕ) (t : List ℕ) (j : ℕ) → get_or (blank k n t) j 0 ≡ cond (is_entry k n j) 0 (get_or t j 0)
get_or-blank k n t j =
    elim (cases_lt j (length t)) [
      | inl low ↦ get_or-laid (λ _. []) k n t j low
      | inr past ↦
          let size = length-blank k n t in
          get_or_past _ j 0 (omega arith) ∙ sym (ap (λ (x : ℕ). cond (is_entry k n j) 0 x) (get_or_past t j 0 past)
          ∙ same_cond (is_entry k n j) 0)
    ]
