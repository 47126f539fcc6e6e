-- What varies is read again from its own bytes.
use Rattle.std.proofs.Common.{◌≡◌, ℕ, zero, suc, ◌+◌, ◌*◌, ◌/◌, ◌%◌, ◌<◌, ◌≤◌, max, Bool, true, cond, eqb, leb, not}
use Rattle.std.proofs.Common.{◌&&◌, List, [], ◌++◌, length, get_or, take, refl, ap, sym, ◌∙◌, arith, length-append}
use Rattle.std.proofs.Common.{inl, inr}
use Rattle.std.proofs.lemmas.List.{get_or-take, get_or_append_left, length-take-le}
use Rattle.std.proofs.Math.Nat.{le-max_left, le-max_right}
use Rattle.std.proofs.Math.Seq.{take-append_seam}
use Rattle.std.proofs.lemmas.Bool.{and_from, and_parts, cases_Bool, cond-false, cond-true, le-leb, leb-true}
use Rattle.sfnt_bytes.specs.Number.{number, u16_at, u32_at}
use Rattle.colour_tables.specs.Stores.{data_end, data_end_at, data_ends, delta_set_size, entry_size, index_map_in}
use Rattle.colour_tables.specs.Stores.{index_map_size, regions_end, store_end, store_in}

-- bytes agree below a place
abbrev pub Agree : ℕ → List ℕ → List ℕ → Type 0
Agree s b c = (i : ℕ) → i < s → get_or c i 0 ≡ get_or b i 0

u16-agree : (s at : ℕ) (b c : List ℕ) → Agree s b c → at + 1 < s → u16_at c at ≡ u16_at b at
unfolding u16_at
u16-agree s at b c same h =
    let first = same at (omega (arith, h)) in
    let second = same (at + 1) h in λ i. first i * 256 + second i

u32-agree : (s at : ℕ) (b c : List ℕ) → Agree s b c → at + 3 < s → u32_at c at ≡ u32_at b at
unfolding u32_at
u32-agree s at b c same h =
    let first = same at (omega (arith, h)) in
    let second = same (at + 1) (omega (arith, h)) in
    let third = same (at + 2) (omega (arith, h)) in
    let fourth = same (at + 3) h in
    λ i. number (first i) (second i) (third i) (fourth i)

-- the bytes in front of others agree with those that they are taken from
agree-front : (s : ℕ) (b z : List ℕ) → s ≤ length b → Agree s b (take s b ++ z)
agree-front s b z h i l =
    let size : length (take s b) ≡ s = length-take-le s b h in
    get_or_append_left (take s b) z 0 i (omega (arith, l, size)) ∙ get_or-take s b i 0 l

take-again : (s k : ℕ) (b z : List ℕ) → s ≤ length b → k ≡ s → take k (take s b ++ z) ≡ take s b
take-again s k b z h e =
    ap (λ (n : ℕ). take n (take s b ++ z)) (e ∙ sym (length-take-le s b h)) ∙ take-append_seam (take s b) z

front-long : (s k : ℕ) (b z : List ℕ) → s ≤ length b → k ≡ s → leb k (length (take s b ++ z)) ≡ true
front-long s k b z h e =
    le-leb k _ (omega (arith, e, length-append (take s b) z, length-take-le s b h))

-- the map
abbrev size_by : ℕ → List ℕ → ℕ
size_by first b =
    cond (eqb first 0) (4 + entry_size b * u16_at b 2) (cond (eqb first 1) (6 + entry_size b * u32_at b 2) 0)

map-agree : (b c : List ℕ) → Agree (index_map_size b) b c → 0 < index_map_size b
    → index_map_size c ≡ index_map_size b
map-agree b c same some = elim (cases_Bool (eqb (get_or b 0 0) 0)) [
  | inl short ↦
      let is : index_map_size b ≡ 4 + entry_size b * u16_at b 2 = cond-true (eqb (get_or b 0 0) 0) _ _ short in
      let entry = same 1 (omega (arith, is)) in
      let count = u16-agree (index_map_size b) 2 b c same (omega (arith, is)) in
      ap (λ (x : ℕ). size_by x c) (same 0 some) ∙ cond-true (eqb (get_or b 0 0) 0) _ _ short
      ∙ (λ i. 4 + (entry i / 16 % 4 + 1) * count i) ∙ sym is
  | inr other ↦ elim (cases_Bool (eqb (get_or b 0 0) 1)) [
    | inl wide ↦
        let is : index_map_size b ≡ 6 + entry_size b * u32_at b 2 =
        cond-false (eqb (get_or b 0 0) 0) _ _ other ∙ cond-true (eqb (get_or b 0 0) 1) _ _ wide in
        let entry = same 1 (omega (arith, is)) in
        let count = u32-agree (index_map_size b) 2 b c same (omega (arith, is)) in
        ap (λ (x : ℕ). size_by x c) (same 0 some) ∙ cond-false (eqb (get_or b 0 0) 0) _ _ other
        ∙ cond-true (eqb (get_or b 0 0) 1) _ _ wide ∙ (λ i. 6 + (entry i / 16 % 4 + 1) * count i) ∙ sym is
    | inr none ↦
        absurd (omega (
          arith,
          some,
          cond-false (eqb (get_or b 0 0) 0) (4 + entry_size b * u16_at b 2) _ other
              ∙ cond-false (eqb (get_or b 0 0) 1) (6 + entry_size b * u32_at b 2) 0 none,
        ))
  ]
]

pub map-again : (b z : List ℕ) → 0 < length (index_map_in b) → index_map_in (index_map_in b ++ z) ≡ index_map_in b
unfolding index_map_in
map-again b z some = elim (cases_Bool (leb (index_map_size b) (length b))) [
  | inl room ↦
      let s = index_map_size b in
      let h = leb-true s (length b) room in
      let own : index_map_in b ≡ take s b = cond-true (leb s (length b)) _ _ room in
      let size = length-take-le s b h in
      let positive : 0 < s = omega (arith, some, ap length own, size) in
      let again = map-agree b (take s b ++ z) (agree-front s b z h) positive in
      ap (λ (m : List ℕ). index_map_in (m ++ z)) own
      ∙ cond-true (leb (index_map_size (take s b ++ z)) (length (take s b ++ z))) _ _ (front-long s _ b z h again)
      ∙ take-again s _ b z h again ∙ sym own
  | inr none ↦
      absurd (omega (
        arith,
        some,
        ap length (cond-false (leb (index_map_size b) (length b)) (take (index_map_size b) b) [] none),
      ))
]

-- the store
end-agree : (s at : ℕ) (b c : List ℕ) → Agree s b c → data_end_at b at ≤ s → data_end_at c at ≡ data_end_at b at
end-agree s at b c same h =
    let items = u16-agree s at b c same (omega (arith, h)) in
    let words = u16-agree s (at + 2) b c same (omega (arith, h)) in
    let regions = u16-agree s (at + 4) b c same (omega (arith, h)) in
    λ i. at + 6 + 2 * regions i + items i * delta_set_size (words i) (regions i)

data-agree : (s k : ℕ) (b c : List ℕ) → Agree s b c → 8 + 4 * k + 3 < s → data_end b k ≤ s
    → data_end c k ≡ data_end b k
data-agree s k b c same there h =
    ap (λ (at : ℕ). cond (eqb at 0) 0 (data_end_at c at)) (u32-agree s (8 + 4 * k) b c same there)
    ∙ elim (cases_Bool (eqb (u32_at b (8 + 4 * k)) 0)) [
      | inl none ↦
          cond-true (eqb (u32_at b (8 + 4 * k)) 0) 0 _ none ∙ sym (cond-true (eqb (u32_at b (8 + 4 * k)) 0) 0 _ none)
      | inr some ↦
          let is = cond-false (eqb (u32_at b (8 + 4 * k)) 0) 0 (data_end_at b (u32_at b (8 + 4 * k))) some in
          cond-false (eqb (u32_at b (8 + 4 * k)) 0) 0 _ some
          ∙ end-agree s (u32_at b (8 + 4 * k)) b c same (omega (arith, h, is)) ∙ sym is
    ]

ends-agree : (s m : ℕ) (b c : List ℕ) → Agree s b c → 8 + 4 * m ≤ s → data_ends b m ≤ s
    → data_ends c m ≡ data_ends b m
ends-agree s zero b c same there h = refl
ends-agree s (suc m) b c same there h =
    let before = le-max_left (data_ends b m) (data_end b m) in
    let last = le-max_right (data_ends b m) (data_end b m) in
    let more = ends-agree s m b c same (omega (arith, there)) (omega (arith, before, h)) in
    let here = data-agree s m b c same (omega (arith, there)) (omega (arith, last, h)) in
    λ i. max (more i) (here i)

store-agree : (b c : List ℕ) → Agree (store_end b) b c → store_end c ≡ store_end b
store-agree b c same =
    let s = store_end b in
    let front = max (8 + 4 * u16_at b 6) (regions_end b) in
    let front_low = le-max_left front (data_ends b (u16_at b 6)) in
    let ends_low = le-max_right front (data_ends b (u16_at b 6)) in
    let head_low = le-max_left (8 + 4 * u16_at b 6) (regions_end b) in
    let regions_low = le-max_right (8 + 4 * u16_at b 6) (regions_end b) in
    let count = u16-agree s 6 b c same (omega (arith, front_low, head_low)) in
    let at = u32-agree s 2 b c same (omega (arith, front_low, head_low)) in
    let axes = u16-agree s (u32_at b 2) b c same (omega (arith, front_low, regions_low)) in
    let regions = u16-agree s (u32_at b 2 + 2) b c same (omega (arith, front_low, regions_low)) in
    let list : regions_end c ≡ regions_end b =
    ap (λ (k : ℕ). k + 4 + 6 * (u16_at c k * u16_at c (k + 2))) at
    ∙ (λ i. u32_at b 2 + 4 + 6 * (axes i * regions i)) in
    let ends : data_ends c (u16_at c 6) ≡ data_ends b (u16_at b 6) =
    ap (data_ends c) count
    ∙ ends-agree s (u16_at b 6) b c same (omega (arith, front_low, head_low)) ends_low in
    λ i. max (max (8 + 4 * count i) (list i)) (ends i)

abbrev is_store : List ℕ → Bool
is_store b = eqb (u16_at b 0) 1 && not (eqb (u32_at b 2) 0) && leb (store_end b) (length b)

pub store-again : (b z : List ℕ) → 0 < length (store_in b) → store_in (store_in b ++ z) ≡ store_in b
unfolding store_in
store-again b z some = elim (cases_Bool (is_store b)) [
  | inl yes_it ↦
      let s = store_end b in
      let parts = and_parts (eqb (u16_at b 0) 1 && not (eqb (u32_at b 2) 0)) (leb s (length b)) yes_it in
      let h = leb-true s (length b) parts.1 in
      let own : store_in b ≡ take s b = cond-true (is_store b) _ _ yes_it in
      let c = take s b ++ z in
      let same = agree-front s b z h in
      let low = le-max_left (8 + 4 * u16_at b 6) (regions_end b) in
      let lower = le-max_left (max (8 + 4 * u16_at b 6) (regions_end b)) (data_ends b (u16_at b 6)) in
      let format = u16-agree s 0 b c same (omega (arith, low, lower)) in
      let regions = u32-agree s 2 b c same (omega (arith, low, lower)) in
      let again = store-agree b c same in
      let still : is_store c ≡ true =
      and_from (eqb (u16_at c 0) 1 && not (eqb (u32_at c 2) 0)) _
      ((λ i. eqb (format i) 1 && not (eqb (regions i) 0)) ∙ parts.0) (front-long s _ b z h again) in
      ap (λ (m : List ℕ). store_in (m ++ z)) own ∙ cond-true (is_store c) _ _ still ∙ take-again s _ b z h again
      ∙ sym own
  | inr none ↦ absurd (omega (arith, some, ap length (cond-false (is_store b) (take (store_end b) b) [] none)))
]
