-- Good offsets of `loca`, one by one and all of them.
use Rattle.std.proofs.Common.{◌≡◌, ℕ, zero, suc, ◌+◌, ◌-◌, ◌*◌, ◌<◌, ◌≤◌, Bool, false, ◌&&◌, ◌||◌, ltb, List, find}
use Rattle.std.proofs.Common.{length, None, ap, arith, refl, inl, inr}
use Rattle.std.specs.List.{range_with_len}
use Rattle.std.proofs.lemmas.Bool.{and_cases, both_ways, cases_order, le-ltb, lt-ltb, ltb-false, or_parts}
use Rattle.font_tables.specs.Outlines.{falls, offset_at, offset_size}
use Rattle.font_tables.specs.Refusals.{is_bad_offset}
use Rattle.font_tables.specs.declared.loca.LocaForm.{LocaForm}
use Rattle.font_tables.specs.declared.loca.LocaForm.TheVariants.{Short, Long}

-- an offset that is not bad
pub record IsGoodOffset (form : LocaForm) (loca : List ℕ) (glyf_length j : ℕ) : Type 0 where
  pub whole : offset_size form * (j + 1) ≤ length loca
  pub inside : offset_at form loca j ≤ glyf_length
  pub rises : 0 < j → offset_at form loca (j - 1) ≤ offset_at form loca j

rises_by : (j here before : ℕ) → (ltb 0 j && ltb here before) ≡ false → 0 < j → before ≤ here
rises_by j here before h up = elim (and_cases (ltb 0 j) (ltb here before) h) [
  | inl first ↦ absurd (both_ways _ first (lt-ltb 0 j up))
  | inr no_fall ↦ ltb-false here before no_fall
]

pub is_good_offset : (form : LocaForm) (loca : List ℕ) (glyf_length j : ℕ) → is_bad_offset form loca glyf_length j
    ≡ false → IsGoodOffset form loca glyf_length j
unfolding is_bad_offset
is_good_offset form loca glyf_length j h =
    let outer = or_parts _ _ h in
    let inner = or_parts _ _ outer.0 in
    record { whole = ltb-false _ _ inner.0; inside = ltb-false _ _ inner.1; rises = rises_by j _ _ outer.1 }

-- where the last offset is whole, so are those before it
pub offset_is_whole : (form : LocaForm) (loca : List ℕ) (last j : ℕ) → offset_size form * (last + 1) ≤ length loca
    → j ≤ last → offset_size form * (j + 1) ≤ length loca
offset_is_whole Short loca last j whole low = omega arith
offset_is_whole Long loca last j whole low = omega arith

-- the first offset falls below none, and each next one may fall
pub falls_none : (form : LocaForm) (loca : List ℕ) → falls form loca 0 ≡ false
unfolding falls
falls_none form loca = refl

pub falls_more : (form : LocaForm) (loca : List ℕ) (j : ℕ)
    → falls form loca (j + 1) ≡ (falls form loca j || ltb (offset_at form loca (j + 1)) (offset_at form loca j))
unfolding falls
falls_more form loca j = let next : j + 1 ≡ suc j = omega arith in ap (falls form loca) next

-- the offsets 0 to last never fall
abbrev Rises : LocaForm → List ℕ → ℕ → Type 0
Rises form loca last = (j : ℕ) → j < last → offset_at form loca j ≤ offset_at form loca (j + 1)

rises : (form : LocaForm) (loca : List ℕ) (last : ℕ) → falls form loca last ≡ false → Rises form loca last
unfolding falls
rises form loca zero h j low = absurd (omega arith)
rises form loca (suc last) h j low = let parts =
    or_parts (falls form loca last) (ltb (offset_at form loca (last + 1)) (offset_at form loca last)) h in
    let up : offset_at form loca last ≤ offset_at form loca (last + 1) = ltb-false _ _ parts.1 in
    elim (cases_order j last) [
      | inl same ↦ let at = ap (offset_at form loca) same in let next =
          ap (λ (i : ℕ). offset_at form loca (i + 1)) same in
          omega arith
      | inr other ↦ elim other [ inl less ↦ rises form loca last parts.0 j less | inr more ↦ absurd (omega arith) ]
    ]

-- offsets that rise are not above the last one
pub rises_to_last : (form : LocaForm) (loca : List ℕ) (j n : ℕ) → Rises form loca (j + n) → offset_at form loca j
    ≤ offset_at form loca (j + n)
rises_to_last form loca j zero rises = let same : j + zero ≡ j = omega arith in rw same (omega arith)
rises_to_last form loca j (suc n) rises =
    let next : j + suc n ≡ j + n + 1 = omega arith in
    let before = rises_to_last form loca j n (λ k low. rises k (omega arith)) in
    let step = rises (j + n) (omega arith) in
    rw next (omega arith)

no_fall : (j : ℕ) (here before : ℕ) → (0 < j → before ≤ here) → (ltb 0 j && ltb here before) ≡ false
no_fall zero here before h = refl
no_fall (suc j) here before h = rw (lt-ltb 0 (suc j) (omega arith), le-ltb here before (h (omega arith))) refl

not_bad : (form : LocaForm) (loca : List ℕ) (glyf_length last j : ℕ) → offset_size form * (last + 1) ≤ length loca
    → offset_at form loca last ≤ glyf_length → Rises form loca last → j ≤ last → is_bad_offset form loca glyf_length j
    ≡ false
unfolding is_bad_offset
not_bad form loca glyf_length last j whole inside rises low =
    let there = offset_is_whole form loca last j whole low in
    let end : j + (last - j) ≡ last = omega arith in
    let below : offset_at form loca j ≤ offset_at form loca (j + (last - j)) =
    rises_to_last form loca j (last - j) (λ k less. rises k (omega arith)) in
    let same = ap (offset_at form loca) end in
    let up : 0 < j → offset_at form loca (j - 1) ≤ offset_at form loca j = λ some. let back : j - 1 + 1 ≡ j =
    omega arith in let step = rises (j - 1) (omega arith) in let is = ap (offset_at form loca) back in
    omega arith in
    rw (
      le-ltb (length loca) (offset_size form * (j + 1)) there,
      le-ltb glyf_length (offset_at form loca j)
          (omega arith),
      no_fall j _ _ up,
    ) refl

find_in_range : (bad : ℕ → Bool) (i n : ℕ) → ((j : ℕ) → i ≤ j → j < i + n → bad j ≡ false)
    → find bad (range_with_len i n) ≡ None
find_in_range bad i zero fine = refl
find_in_range bad i (suc n) fine =
    rw (fine i (omega arith) (omega arith))
    (find_in_range bad (i + 1) n (λ j low high. fine j (omega arith) (omega arith)))

-- where the last offset is whole and within `glyf`, and none falls, none is bad
pub none_is_bad : (form : LocaForm) (loca : List ℕ) (glyf_length last : ℕ) → offset_size form * (last + 1) ≤ length loca
    → offset_at form loca last ≤ glyf_length → falls form loca last ≡ false
    → find (is_bad_offset form loca glyf_length) (range_with_len 0 (last + 1)) ≡ None
none_is_bad form loca glyf_length last whole inside h =
    find_in_range (is_bad_offset form loca glyf_length) 0 (last + 1) (λ j low high. not_bad form loca glyf_length last j
    whole inside (rises form loca last h) (omega arith))
