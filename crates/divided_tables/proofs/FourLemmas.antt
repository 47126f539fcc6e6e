-- The bytes of a glyph alone in a table of metrics.
use Rattle.std.proofs.Common.{◌≡◌, ◌≢◌, ℕ, ◌+◌, ◌-◌, ◌*◌, ◌<◌, ◌≤◌, Bool, true, false, inl, inr}
use Rattle.std.proofs.Common.{nat_eq, nat_lt, not, List, [], ◌∷◌, add-zero, drop, if◌then◌else◌, get_or, length, map}
use Rattle.std.proofs.Common.{slice_range, refl, sym, ◌∙◌, ap, arith}
use Rattle.std.specs.List.{range_with_len}
use Rattle.std.specs.Str.{bytes_eq}
use Rattle.std.proofs.lemmas.Bool.{cases_lt, le-ltb, lt-ltb, ne_eqb}
use Rattle.std.proofs.lemmas.List.{get_or-drop, get_or-take}
use Rattle.font_theory.proofs.EntryLemmas.{four-same, four-zero, metric_bytes-is}
use Rattle.font_theory.proofs.PartedLemmas.{bare-zeros}
use Rattle.font_theory.specs.Parted.{bare, entry_size, entry_start, metric_bytes}

-- a bearing has two bytes
pub entry_size-two : (k g : ℕ) → 0 < k → entry_size k g ≢ 4 → entry_size k g ≡ 2
unfolding entry_size
entry_size-two k g some other =
    let ne : nat_eq k 0 ≡ false = ne_eqb k 0 (λ e. omega (arith, e, some)) in
    elim (cases_lt (g + 1) k) [
      | inl pair ↦ let x = lt-ltb (g + 1) k pair in absurd (other (rw (ne, x) refl))
      | inr late ↦ let x = le-ltb (g + 1) k late in rw (ne, x) refl
    ]

-- four bytes of a pair, or two of a bearing
module _ (k : ℕ) (t : List ℕ) (g : ℕ) where
  pub four_bytes : entry_size k g ≡ 4 → metric_bytes k t g
      ≡ get_or t (entry_start k g) 0 ∷ get_or t (entry_start k g + 1) 0 ∷ get_or t (entry_start k g + 2) 0
      ∷ get_or t (entry_start k g + 3) 0 ∷ []
  unfolding metric_bytes
  four_bytes e =
      (λ i. map (λ j. if nat_lt j (e i) then get_or t (entry_start k g + j) 0 else 0) (range_with_len 0 4))
      ∙ ap (λ (n : ℕ). get_or t n 0 ∷ get_or t (entry_start k g + 1) 0 ∷ get_or t (entry_start k g + 2) 0
      ∷ get_or t (entry_start k g + 3) 0 ∷ []) (add-zero (entry_start k g))

  pub two_bytes : entry_size k g ≡ 2 → metric_bytes k t g
      ≡ get_or t (entry_start k g) 0 ∷ get_or t (entry_start k g + 1) 0 ∷ 0 ∷ 0 ∷ []
  unfolding metric_bytes
  two_bytes e =
      (λ i. map (λ j. if nat_lt j (e i) then get_or t (entry_start k g + j) 0 else 0) (range_with_len 0 4))
      ∙ ap (λ (n : ℕ). get_or t n 0 ∷ get_or t (entry_start k g + 1) 0 ∷ 0 ∷ 0 ∷ []) (add-zero (entry_start k g))

  pub no_bytes : k ≡ 0 → 0 ∷ 0 ∷ 0 ∷ 0 ∷ [] ≡ metric_bytes k t g
  unfolding metric_bytes entry_size
  no_bytes e = sym (ap (λ (n : ℕ). metric_bytes n t g) e)

-- where these stand
module _ (k g : ℕ) (some : 0 < k) where
  ne : nat_eq k 0 ≡ false
  ne = ne_eqb k 0 (λ e. omega (arith, e, some))

  pair_size : g + 1 < k → entry_size k g ≡ 4
  unfolding entry_size
  pair_size pair = let x = lt-ltb (g + 1) k pair in rw (ne, x) refl

  pair_place : g + 1 < k → entry_start k g ≡ 4 * g
  unfolding entry_start
  pair_place pair = let x = lt-ltb (g + 1) k pair in rw x refl

  bearing_size : k ≤ g + 1 → entry_size k g ≡ 2
  unfolding entry_size
  bearing_size late = let x = le-ltb (g + 1) k late in rw (ne, x) refl

  bearing_place : k ≤ g + 1 → entry_start k g ≡ 2 * (k + g)
  unfolding entry_start
  bearing_place late = let x = le-ltb (g + 1) k late in rw x refl

module _ (k : ℕ) (t : List ℕ) (g : ℕ) (some : 0 < k) where
  pair_bytes : g + 1 < k → metric_bytes k t g
      ≡ get_or t (4 * g) 0 ∷ get_or t (4 * g + 1) 0 ∷ get_or t (4 * g + 2) 0 ∷ get_or t (4 * g + 3) 0 ∷ []
  pair_bytes pair = four_bytes k t g (pair_size k g some pair)
      ∙ ap (λ (n : ℕ). get_or t n 0 ∷ get_or t (n + 1) 0 ∷ get_or t (n + 2) 0 ∷ get_or t (n + 3) 0 ∷ [])
      (pair_place k g some pair)

  bearing_bytes : k ≤ g + 1 → metric_bytes k t g
      ≡ get_or t (2 * (k + g)) 0 ∷ get_or t (2 * (k + g) + 1) 0 ∷ 0 ∷ 0 ∷ []
  bearing_bytes late = two_bytes k t g (bearing_size k g some late)
      ∙ ap (λ (n : ℕ). get_or t n 0 ∷ get_or t (n + 1) 0 ∷ 0 ∷ 0 ∷ []) (bearing_place k g some late)

-- four bytes of which some are not 0
pub some_of_four : (a b c d : ℕ) → not (bytes_eq (a ∷ b ∷ c ∷ d ∷ []) (0 ∷ 0 ∷ 0 ∷ 0 ∷ []))
    ≡ nat_lt 0 (length (bare (a ∷ b ∷ c ∷ d ∷ [])))
unfolding bare
some_of_four a b c d = go (bytes_eq (a ∷ b ∷ c ∷ d ∷ []) (0 ∷ 0 ∷ 0 ∷ 0 ∷ []))
  where
    go : (x : Bool) → not x ≡ nat_lt 0 (length (if x then [] else a ∷ b ∷ c ∷ d ∷ []))
    go false = refl
    go true = refl

-- a glyph has no bytes in a table without pairs
pub no_pairs : (g : ℕ) (table : List ℕ) → bare (metric_bytes 0 table g) ≡ []
unfolding bare metric_bytes entry_size
no_pairs g table = refl

-- a byte of a slice of zeros
zero_byte : (t : List ℕ) (a b i : ℕ) → ((k : ℕ) → get_or (slice_range t a b) k 0 ≡ 0) → a ≤ i → i < b
    → get_or t i 0 ≡ 0
zero_byte t a b i zeros low high =
    let e : i ≡ a + (i - a) = omega (arith, low) in
    let f : i - a < b - a = omega (arith, low, high) in
    ap (λ (m : ℕ). get_or t m 0) e ∙ sym (get_or-drop a t (i - a) 0) ∙ sym (get_or-take (b - a) (drop a t) (i - a) 0 f)
    ∙ zeros (i - a)

-- a glyph in a run of pairs, or of bearings, that are all 0
module _ (k : ℕ) (t : List ℕ) (from to g : ℕ) (some : 0 < k) (low : from ≤ g) (high : g < to) where
  pub zero_pair : to < k → ((i : ℕ) → get_or (slice_range t (4 * from) (4 * to)) i 0 ≡ 0)
      → nat_lt 0 (length (bare (metric_bytes k t g))) ≡ false
  zero_pair pairs zeros =
      let x = zero_byte t (4 * from) (4 * to) (4 * g) zeros (omega (arith, low)) (omega (arith, high)) in
      let y = zero_byte t (4 * from) (4 * to) (4 * g + 1) zeros (omega (arith, low)) (omega (arith, high)) in
      let z = zero_byte t (4 * from) (4 * to) (4 * g + 2) zeros (omega (arith, low)) (omega (arith, high)) in
      let w = zero_byte t (4 * from) (4 * to) (4 * g + 3) zeros (omega (arith, low)) (omega (arith, high)) in
      ap (λ (b : List ℕ). nat_lt 0 (length (bare b))) (pair_bytes k t g some (omega (arith, pairs, high)))
      ∙ (λ i. nat_lt 0 (length (bare (x i ∷ y i ∷ z i ∷ w i ∷ [])))) ∙ sym (some_of_four 0 0 0 0)

  pub zero_bearing : k ≤ from + 1 → ((i : ℕ) → get_or (slice_range t (2 * (k + from)) (2 * (k + to))) i 0 ≡ 0)
      → nat_lt 0 (length (bare (metric_bytes k t g))) ≡ false
  zero_bearing late zeros =
      let x =
      zero_byte t (2 * (k + from)) (2 * (k + to)) (2 * (k + g)) zeros
      (omega (arith, low)) (omega (arith, high)) in
      let y = zero_byte t (2 * (k + from)) (2 * (k + to)) (2 * (k + g) + 1) zeros (omega (arith, low))
      (omega (arith, high)) in
      ap (λ (b : List ℕ). nat_lt 0 (length (bare b))) (bearing_bytes k t g some (omega (arith, late, low)))
      ∙ (λ i. nat_lt 0 (length (bare (x i ∷ y i ∷ 0 ∷ 0 ∷ [])))) ∙ sym (some_of_four 0 0 0 0)

-- there is nothing in a table that there is not
pub nothing_bare : (k g : ℕ) → bare (metric_bytes k [] g) ≡ []
nothing_bare k g =
    ap bare (metric_bytes-is k [] g ∙ four-same k g _ (λ i. 0) (λ i h. refl) ∙ four-zero k g) ∙ bare-zeros
