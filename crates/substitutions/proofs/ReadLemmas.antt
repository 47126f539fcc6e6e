-- What the readers of the walk tell where they find something.
use Rattle.std.proofs.Common.{◌≡◌, ℕ, ◌+◌, ◌*◌, ◌<◌, ◌||◌, ◌⊎◌, inl, inr, Bool, true, false, cond, not, eqb, ltb, List}
use Rattle.std.proofs.Common.{length, refl, sym, ap, ◌∙◌, arith, Option, Some, None}
use Rattle.std.specs.Option.{option_map}
use Rattle.std.proofs.lemmas.Bool.{ne_eqb}
use Rattle.std.proofs.lemmas.Option.{option_and_then_some, none-some, same_Some}
use Rattle.sfnt_bytes.specs.Number.{u16_at, u32_at}
use Rattle.font_layout.specs.Counted.{counted}
use Rattle.font_layout.specs.Coverage.{coverage_at, span_at}
use Rattle.font_layout.specs.Rule.{rule_at}
use Rattle.font_layout.specs.Steps.{extension_subtable, is_unknown_type, lookup_at, lookup_list, plain_subtable}
use Rattle.substitutions.specs.Inside.{Coverage, Lookup, Subtable}

pub option_cases : {X : Type 0} (o : Option X) → (o ≡ None) ⊎ ((x : X) × (o ≡ Some x))
option_cases None = inl refl
option_cases (Some x) = inr (x, refl)

pub some_mapped : {X Y : Type 0} (f : X → Y) (o : Option X) (y : Y) → option_map f o ≡ Some y → (x : X) × (o ≡ Some x)
    × (f x ≡ y)
some_mapped f None y h = absurd (none-some y h)
some_mapped f (Some x) y h = (x, refl, same_Some (f x) y h)

pub some_offset : (offset : ℕ) → 0 < offset → eqb offset 0 ≡ false
some_offset offset some = ne_eqb offset 0 (λ e. absurd (omega (arith, e)))

pub counted-tells : (table : List ℕ) (at size n : ℕ) → counted table at size ≡ Some n → n ≡ u16_at table at
unfolding counted
counted-tells table at size n h = grind (arith)

-- the count of the list of lookups, where there is an offset to it
pub list-tells : (table : List ℕ) (n : ℕ) → lookup_list table ≡ Some n → 0 < u16_at table 8
    → n ≡ u16_at table (u16_at table 8)
unfolding lookup_list
list-tells table n h some =
    let told = counted-tells table (u16_at table 8) 2 n in
    let no = some_offset (u16_at table 8) some in
    grind (arith)

-- a lookup
pub record IsLookup (table : List ℕ) (at : ℕ) (lookup : Lookup) : Type 0 where
  pub place : lookup.at ≡ at
  pub kind : lookup.kind ≡ u16_at table at
  pub count : lookup.count ≡ u16_at table (at + 4)

pub lookup-tells : (table : List ℕ) (base offset : ℕ) (lookup : Lookup) → lookup_at table base offset ≡ Some lookup
    → 0 < offset → IsLookup table (base + offset) lookup
unfolding lookup_at
lookup-tells table base offset lookup h some =
    let no = some_offset offset some in
    option_and_then_some _ (counted table (base + offset + 4) 2) lookup (rw no at h)
    (λ n is known. go n (counted-tells table (base + offset + 4) 2 n is)
    (is_unknown_type (u16_at table (base + offset))) known)
  where
    go : (n : ℕ) → n ≡ u16_at table (base + offset + 4) → (b : Bool)
        → cond b None (Some (record { kind = u16_at table (base + offset); at = base + offset; count = n }))
        ≡ Some lookup → IsLookup table (base + offset) lookup
    go n count true e = absurd (none-some lookup e)
    go n count false e =
        let is = same_Some _ lookup e in
        record {
          place = ap (λ (l : Lookup). l.at) (sym is);
          kind = ap (λ (l : Lookup). l.kind) (sym is);
          count = ap (λ (l : Lookup). l.count) (sym is) ∙ count;
        }

-- a subtable with a Coverage
pub plain-tells : (table : List ℕ) (kind at offsets : ℕ) (subtable : Subtable)
    → plain_subtable table kind at offsets ≡ Some subtable → (eqb kind 5 || eqb kind 6) ≡ false
    → (rule_at table kind at ≡ Some subtable.rule)
    × (coverage_at table at (u16_at table (at + 2)) ≡ Some subtable.coverage)
unfolding plain_subtable
plain-tells table kind at offsets subtable h own =
    option_and_then_some _ (rule_at table kind at) subtable (rw own at h)
    (λ rule is rest.
    let covered = some_mapped _ (coverage_at table at (u16_at table (at + 2))) subtable rest in (
      is ∙ ap (λ (x : Subtable). Some x.rule) covered.2,
      covered.1 ∙ ap (λ (x : Subtable). Some x.coverage) covered.2,
    ))

-- a subtable that an extension leads to
pub extension-tells : (table : List ℕ) (at : ℕ) (subtable : Subtable) → extension_subtable table at ≡ Some subtable
    → 0 < u32_at table (at + 4)
    → plain_subtable table (u16_at table (at + 2)) (at + u32_at table (at + 4)) 2 ≡ Some subtable
unfolding extension_subtable
extension-tells table at subtable h some =
    go (ltb (length table) (at + 8) || not (eqb (u16_at table at) 1))
    (is_unknown_type (u16_at table (at + 2)) || eqb (u16_at table (at + 2)) 7)
    (rw (some_offset (u32_at table (at + 4)) some) at h)
  where
    go : (a b : Bool)
        → cond a None (cond b None (plain_subtable table (u16_at table (at + 2)) (at + u32_at table (at + 4)) 2))
        ≡ Some subtable
        → plain_subtable table (u16_at table (at + 2)) (at + u32_at table (at + 4)) 2 ≡ Some subtable
    go true b e = absurd (none-some subtable e)
    go false true e = absurd (none-some subtable e)
    go false false e = e

-- a Coverage
pub record IsCoverage (table : List ℕ) (at : ℕ) (ranged : Bool) (coverage : Coverage) : Type 0 where
  pub form : coverage.ranged ≡ ranged
  pub place : coverage.at ≡ at + 4
  pub count : coverage.count ≡ u16_at table (at + 2)

-- one whose items, of so many bytes each, are counted behind its format
abbrev coverage_of : ℕ → Bool → ℕ → Coverage
coverage_of place ranged n = record { ranged = ranged; at = place + 4; count = n }

coverage-counted : (table : List ℕ) (place size : ℕ) (ranged : Bool) (coverage : Coverage)
    → option_map (coverage_of place ranged) (counted table (place + 2) size) ≡ Some coverage
    → IsCoverage table place ranged coverage
coverage-counted table place size ranged coverage h =
    let there = some_mapped _ (counted table (place + 2) size) coverage h in
    let is = sym there.2 in
    record {
      form = ap (λ (c : Coverage). c.ranged) is;
      place = ap (λ (c : Coverage). c.at) is;
      count = ap (λ (c : Coverage). c.count) is ∙ counted-tells table (place + 2) size there.0 there.1;
    }

pub coverage-lists : (table : List ℕ) (at offset : ℕ) (coverage : Coverage)
    → coverage_at table at offset ≡ Some coverage → 0 < offset → u16_at table (at + offset) ≡ 1
    → IsCoverage table (at + offset) false coverage
unfolding coverage_at
coverage-lists table at offset coverage h some form =
    coverage-counted table (at + offset) 2 false coverage (rw (some_offset offset some, form) at h)

pub coverage-ranges : (table : List ℕ) (at offset : ℕ) (coverage : Coverage)
    → coverage_at table at offset ≡ Some coverage → 0 < offset → u16_at table (at + offset) ≡ 2
    → IsCoverage table (at + offset) true coverage
unfolding coverage_at
coverage-ranges table at offset coverage h some form =
    coverage-counted table (at + offset) 6 true coverage (rw (some_offset offset some, form) at h)

-- an item of a Coverage
pub record IsSpan (table : List ℕ) (coverage : Coverage) (k first last index : ℕ) : Type 0 where
  pub first_is : (span_at table coverage k).first ≡ first
  pub last_is : (span_at table coverage k).last ≡ last
  pub index_is : (span_at table coverage k).index ≡ index

pub span-lists : (table : List ℕ) (at k : ℕ) (coverage : Coverage) → IsCoverage table at false coverage
    → IsSpan table coverage k (u16_at table (at + 4 + 2 * k)) (u16_at table (at + 4 + 2 * k)) k
unfolding span_at
span-lists table at k coverage is =
    let form = is.form in
    let place = is.place in
    record { first_is = rw (form, place) refl; last_is = rw (form, place) refl; index_is = rw form refl }

pub span-ranges : (table : List ℕ) (at k : ℕ) (coverage : Coverage) → IsCoverage table at true coverage
    → IsSpan table coverage k (u16_at table (at + 4 + 6 * k)) (u16_at table (at + 6 + 6 * k))
    (u16_at table (at + 8 + 6 * k))
unfolding span_at
span-ranges table at k coverage is =
    let form = is.form in
    let place = is.place in
    let second : at + 4 + 6 * k + 2 ≡ at + 6 + 6 * k = omega arith in
    let third : at + 4 + 6 * k + 4 ≡ at + 8 + 6 * k = omega arith in
    record {
      first_is = rw (form, place) refl;
      last_is = rw (form, place) (ap (u16_at table) second);
      index_is = rw (form, place) (ap (u16_at table) third);
    }
