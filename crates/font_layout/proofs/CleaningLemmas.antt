-- Cleaning a table twice.
use Rattle.std.proofs.Common.{◌≡◌, ℕ, ◌+◌, ◌<◌, ◌≤◌, ◌⊎◌, Bool, true, false, cond, eqb, leb, ◌&&◌, List, get_or, length}
use Rattle.std.proofs.Common.{set, sym, ap, refl, ◌∙◌, arith, inl, inr}
use Rattle.std.proofs.lemmas.Bool.{and_parts, cases_Bool, cases_eq, cases_lt, leb-true}
use Rattle.std.proofs.lemmas.List.{get_or-set_same, get_or-set_other, get_or_past, length-set, set-get_or}
use Rattle.sfnt_bytes.specs.Number.{u16_at, u32_at}
use Rattle.sfnt_bytes.specs.declared.tag.TheConstants.{BASE, GDEF, GSUB}
use Rattle.font_layout.specs.Cleaning.{field_at, fixed, has_field, with_zeros}

abbrev zeros : ℕ → List ℕ → List ℕ
zeros at table = with_zeros at table

pub length-with_zeros : (at : ℕ) (table : List ℕ) → length (with_zeros at table) ≡ length table
length-with_zeros at table =
    length-set (set (set (set table at 0) (at + 1) 0) (at + 2) 0) (at + 3) 0
    ∙ length-set (set (set table at 0) (at + 1) 0) (at + 2) 0 ∙ length-set (set table at 0) (at + 1) 0
    ∙ length-set table at 0

-- a byte before the zeros
before_zeros : (at : ℕ) (table : List ℕ) (k : ℕ) → k < at → get_or (with_zeros at table) k 0 ≡ get_or table k 0
before_zeros at table k low =
    get_or-set_other (set (set (set table at 0) (at + 1) 0) (at + 2) 0) (at + 3) k 0 0 (λ e. absurd (omega (arith, e)))
    ∙ get_or-set_other (set (set table at 0) (at + 1) 0) (at + 2) k 0 0 (λ e. absurd (omega (arith, e)))
    ∙ get_or-set_other (set table at 0) (at + 1) k 0 0 (λ e. absurd (omega (arith, e)))
    ∙ get_or-set_other table at k 0 0 (λ e. absurd (omega (arith, e)))

-- setting a byte to 0 keeps another one that is 0
set-zero : (table : List ℕ) (j k : ℕ) → get_or table k 0 ≡ 0 → get_or (set table j 0) k 0 ≡ 0
set-zero table j k is =
    elim (cases_eq k j) [
      | inl same ↦ elim (below j (length table)) [
        | inl low ↦ rw same (get_or-set_same table j 0 0 low)
        | inr past ↦ let long = length-set table j 0 in
            get_or_past (set table j 0) k 0 (omega (arith, long, same, past))
      ]
      | inr other ↦ get_or-set_other table j k 0 0 other ∙ is
    ]
  where
    below : (a b : ℕ) → (a < b) ⊎ (b ≤ a)
    below a b = cases_lt a b

made-zero : (table : List ℕ) (j : ℕ) → get_or (set table j 0) j 0 ≡ 0
made-zero table j =
    elim (cases_lt j (length table)) [
      | inl low ↦ get_or-set_same table j 0 0 low
      | inr past ↦ let long = length-set table j 0 in get_or_past (set table j 0) j 0 (omega (arith, long))
    ]

set-done : (table : List ℕ) (j : ℕ) → get_or table j 0 ≡ 0 → set table j 0 ≡ table
set-done table j is = ap (set table j) (sym is) ∙ set-get_or table j 0

-- a table with these zeros already
zeros-done : (at : ℕ) (table : List ℕ) → u32_at table at ≡ 0 → with_zeros at table ≡ table
unfolding u32_at u16_at
zeros-done at table is =
    let first : get_or table at 0 ≡ 0 = omega (arith, is) in
    let second : get_or table (at + 1) 0 ≡ 0 = omega (arith, is) in
    let third : get_or table (at + 2) 0 ≡ 0 = omega (arith, is) in
    let fourth : get_or table (at + 3) 0 ≡ 0 = omega (arith, is) in
    ap (λ (x : List ℕ). set (set (set x (at + 1) 0) (at + 2) 0) (at + 3) 0) (set-done table at first)
    ∙ ap (λ (x : List ℕ). set (set x (at + 2) 0) (at + 3) 0) (set-done table (at + 1) second)
    ∙ ap (λ (x : List ℕ). set x (at + 3) 0) (set-done table (at + 2) third)
    ∙ set-done table (at + 3) fourth

zeros-zeros : (at : ℕ) (table : List ℕ) → with_zeros at (with_zeros at table) ≡ with_zeros at table
zeros-zeros at table =
    let a : List ℕ = set table at 0 in
    let b : List ℕ = set a (at + 1) 0 in
    let c : List ℕ = set b (at + 2) 0 in
    let d : List ℕ = set c (at + 3) 0 in
    let za = set-zero c (at + 3) at (set-zero b (at + 2) at (set-zero a (at + 1) at (made-zero table at))) in
    let zb = set-zero c (at + 3) (at + 1) (set-zero b (at + 2) (at + 1) (made-zero a (at + 1))) in
    let zc = set-zero c (at + 3) (at + 2) (made-zero b (at + 2)) in
    let zd = made-zero c (at + 3) in
    let ea : set d at 0 ≡ d = set-done d at za in
    let eb : set d (at + 1) 0 ≡ d = set-done d (at + 1) zb in
    let ec : set d (at + 2) 0 ≡ d = set-done d (at + 2) zc in
    let ed : set d (at + 3) 0 ≡ d = set-done d (at + 3) zd in
    ap (λ (x : List ℕ). set (set (set x (at + 1) 0) (at + 2) 0) (at + 3) 0) ea
    ∙ ap (λ (x : List ℕ). set (set x (at + 2) 0) (at + 3) 0) eb
    ∙ ap (λ (x : List ℕ). set x (at + 3) 0) ec ∙ ed

field_high : (slot : ℕ) → 8 ≤ field_at slot
unfolding field_at
field_high slot = go (eqb slot BASE) (eqb slot GDEF)
  where
    go : (a b : Bool) → 8 ≤ cond a 8 (cond b 14 10)
    go true b = omega arith
    go false true = omega arith
    go false false = omega arith

u16-zeros : (at : ℕ) (table : List ℕ) (k : ℕ) → k + 1 < at → u16_at (with_zeros at table) k ≡ u16_at table k
unfolding u16_at
u16-zeros at table k low =
    let first = before_zeros at table k (omega arith) in
    let second = before_zeros at table (k + 1) low in
    rw (first, second) refl

has_field-zeros : (slot : ℕ) (table : List ℕ) → has_field slot (with_zeros (field_at slot) table) ≡ has_field slot table
unfolding has_field
has_field-zeros slot table =
    let high = field_high slot in
    let long = length-with_zeros (field_at slot) table in
    let first = u16-zeros (field_at slot) table 0 (omega (arith, high)) in
    let second = u16-zeros (field_at slot) table 2 (omega (arith, high)) in
    rw (long, first, second) refl

pub fixed-fixed : (slot : ℕ) (table : List ℕ) → fixed slot (fixed slot table) ≡ fixed slot table
unfolding fixed
fixed-fixed slot table =
    elim (cases_Bool (has_field slot table)) [
      | inl is ↦ let still = has_field-zeros slot table ∙ is in rw (is, still) (zeros-zeros (field_at slot) table)
      | inr not_is ↦ rw (not_is, not_is) refl
    ]

-- by whether a table has the field
pub fixed-not : (slot : ℕ) (table : List ℕ) → has_field slot table ≡ false → fixed slot table ≡ table
unfolding fixed
fixed-not slot table not_is = rw not_is refl

-- by whether the field is 0 already
pub fixed-done : (slot : ℕ) (table : List ℕ) (at : ℕ) → at ≡ field_at slot → u32_at table at ≡ 0
    → fixed slot table ≡ table
unfolding fixed
fixed-done slot table at place is =
    let done : with_zeros (field_at slot) table ≡ table =
    ap (λ a. with_zeros a table) (sym place) ∙ zeros-done at table is in
    elim (cases_Bool (has_field slot table)) [
      | inl has ↦ rw has done
      | inr has_not ↦ rw has_not refl
    ]

pub fixed-where : (slot : ℕ) (table bytes : List ℕ) (at : ℕ) → has_field slot table ≡ true → at ≡ field_at slot
    → bytes ≡ with_zeros at table → bytes ≡ fixed slot table
unfolding fixed
fixed-where slot table bytes at is place made = made ∙ ap (λ a. with_zeros a table) place
    ∙ sym (let yes : fixed slot table ≡ with_zeros (field_at slot) table = rw is refl in yes)

pub field_place : (slot : ℕ) (table : List ℕ) → has_field slot table ≡ true → field_at slot + 4 ≤ length table
unfolding has_field
field_place slot table is =
    let parts = and_parts (leb BASE slot && leb slot GSUB) _ is in
    leb-true _ _ (and_parts (leb (field_at slot + 4) (length table)) _ parts.1).0
