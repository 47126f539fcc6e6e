-- Numbers that are written as bytes are read back, also after other bytes.
use Rattle.std.proofs.Common.{◌≡◌, ℕ, zero, suc, ◌+◌, ◌*◌, ◌/◌, ◌%◌, ◌<◌, ◌≤◌, List, [], ◌∷◌, ◌++◌, get_or, drop}
use Rattle.std.proofs.Common.{length, refl, ap, ◌∙◌, sym, arith, flat_map}
use Rattle.std.proofs.lemmas.List.{get_or-drop, get_or_append_left}
use Rattle.sfnt_bytes.specs.Number.{number, u16_at, u32_at}
use Rattle.font_variations.specs.MadeGvar.{u32_bytes}

pub half_is : (n : ℕ) → n / 256 * 256 + n % 256 ≡ n
half_is n = omega arith

-- a byte after what is left out
byte-drop : (k at : ℕ) (b : List ℕ) (j : ℕ) → get_or (drop k b) (at + j) 0 ≡ get_or b (k + at + j) 0
byte-drop k at b j = let same : k + (at + j) ≡ k + at + j = omega arith in get_or-drop k b (at + j) 0
    ∙ ap (λ (i : ℕ). get_or b i 0) same

-- a number after what is left out
pub u16_at-drop : (k at : ℕ) (b : List ℕ) → u16_at (drop k b) at ≡ u16_at b (k + at)
unfolding u16_at
u16_at-drop k at b = let first = get_or-drop k b at 0 in let second = byte-drop k at b 1 in
    λ i. first i * 256 + second i

pub u32_at-drop : (k at : ℕ) (b : List ℕ) → u32_at (drop k b) at ≡ u32_at b (k + at)
unfolding u32_at
u32_at-drop k at b =
    let first = get_or-drop k b at 0 in
    let second = byte-drop k at b 1 in
    let third = byte-drop k at b 2 in
    let fourth = byte-drop k at b 3 in
    λ i. number (first i) (second i) (third i) (fourth i)

-- a number before other bytes
pub u16_at-front : (xs ys : List ℕ) (at : ℕ) → at + 2 ≤ length xs → u16_at (xs ++ ys) at ≡ u16_at xs at
unfolding u16_at
u16_at-front xs ys at inside =
    let first = get_or_append_left xs ys 0 at (omega arith) in
    let second = get_or_append_left xs ys 0 (at + 1) (omega arith) in
    λ i. first i * 256 + second i

pub u32_at-front : (xs ys : List ℕ) (at : ℕ) → at + 4 ≤ length xs → u32_at (xs ++ ys) at ≡ u32_at xs at
unfolding u32_at
u32_at-front xs ys at inside =
    let first = get_or_append_left xs ys 0 at (omega arith) in
    let second = get_or_append_left xs ys 0 (at + 1) (omega arith) in
    let third = get_or_append_left xs ys 0 (at + 2) (omega arith) in
    let fourth = get_or_append_left xs ys 0 (at + 3) (omega arith) in
    λ i. number (first i) (second i) (third i) (fourth i)

pub u32_at-bytes : (n : ℕ) (z : List ℕ) → u32_at (u32_bytes n ++ z) 0 ≡ n
unfolding u32_at
u32_at-bytes n z = omega arith

-- a list of numbers is read back by index
pub u32_at-flat_map : (ns : List ℕ) (z : List ℕ) (i : ℕ) → i < length ns → u32_at (flat_map u32_bytes ns ++ z) (4 * i)
    ≡ get_or ns i 0
u32_at-flat_map [] z i inside = absurd (omega arith)
u32_at-flat_map (n ∷ ns) z zero inside = u32_at-bytes n (flat_map u32_bytes ns ++ z)
u32_at-flat_map (n ∷ ns) z (suc i) inside =
    let next : 4 * suc i ≡ 4 + 4 * i = omega arith in
    let all : List ℕ = u32_bytes n ++ (flat_map u32_bytes ns ++ z) in
    ap (u32_at all) next ∙ sym (u32_at-drop 4 (4 * i) all) ∙ u32_at-flat_map ns z i (omega arith)

pub length-u32_bytes : (ns : List ℕ) → length (flat_map u32_bytes ns) ≡ 4 * length ns
length-u32_bytes [] = refl
length-u32_bytes (n ∷ ns) = let rest = length-u32_bytes ns in omega arith
