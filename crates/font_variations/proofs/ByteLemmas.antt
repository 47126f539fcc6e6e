-- A `gvar` that is made is made of bytes.
use Rattle.std.proofs.Common.{ℕ, zero, suc, ◌+◌, ◌/◌, ◌%◌, ◌^◌, ◌<◌, List, [], ◌∷◌, ◌++◌, flat_map, map}
use Rattle.std.proofs.Common.{length, length-append, arith}
use Rattle.std.specs.List.{concat, range_with_len}
use Rattle.std.proofs.lemmas.List.Elements.{All-append, All-cons, All-nil}
use Rattle.font_variations.specs.Laws.{AreBytes}
use Rattle.font_variations.specs.MadeGvar.{data_at, FitsGvar, gvar_bytes, listed_data, offset_bytes, offsets_after}
use Rattle.font_variations.specs.MadeGvar.{tuples_at, u16_bytes, u32_bytes}

both : (xs ys : List ℕ) → AreBytes xs → AreBytes ys → AreBytes (xs ++ ys)
both = All-append (λ byte. byte < 256)

none : AreBytes []
none = All-nil (λ byte. byte < 256)

one_more : (x : ℕ) (xs : List ℕ) → x < 256 → AreBytes xs → AreBytes (x ∷ xs)
one_more = All-cons (λ byte. byte < 256)

of_u16 : (m : ℕ) → m < 2 ^ 16 → AreBytes (u16_bytes m)
of_u16 m low = one_more (m / 256) (m % 256 ∷ []) (omega arith) (one_more (m % 256) [] (omega arith) none)

of_u32 : (m : ℕ) → m < 2 ^ 32 → AreBytes (u32_bytes m)
of_u32 m low =
    both (u16_bytes (m / 65536)) (u16_bytes (m % 65536)) (of_u16 (m / 65536) (omega arith))
    (of_u16 (m % 65536) (omega arith))

of_offsets : (at : ℕ) (listed : List (List ℕ)) → at + length (concat listed) < 2 ^ 32
    → AreBytes (flat_map u32_bytes (offsets_after at listed))
of_offsets at [] low = both (u32_bytes at) [] (of_u32 at (omega arith)) none
of_offsets at (bytes ∷ others) low =
    let size = length-append bytes (concat others) in
    both (u32_bytes at) (flat_map u32_bytes (offsets_after (at + length bytes) others)) (of_u32 at (omega arith))
    (of_offsets (at + length bytes) others (omega arith))

of_data : (of_glyph : ℕ → List ℕ) (k n : ℕ) → ((g : ℕ) → g < k + n → AreBytes (of_glyph g))
    → AreBytes (concat (map of_glyph (range_with_len k n)))
of_data of_glyph k zero are = none
of_data of_glyph k (suc n) are =
    both (of_glyph k) (concat (map of_glyph (range_with_len (k + 1) n))) (are k (omega arith))
    (of_data of_glyph (k + 1) n (λ g low. are g (omega arith)))

pub made_of_bytes : (front shared : List ℕ) (of_glyph : ℕ → List ℕ) (n : ℕ) → FitsGvar shared of_glyph n
    → AreBytes front → AreBytes shared → ((g : ℕ) → g < n → AreBytes (of_glyph g))
    → AreBytes (gvar_bytes front shared of_glyph n)
unfolding gvar_bytes offset_bytes
made_of_bytes front shared of_glyph n fits of_front of_shared are =
    let few = fits.glyphs in
    let place = fits.place in
    let small = fits.size in
    let listed = listed_data of_glyph n in
    let bytes = concat listed in
    let behind_offsets = shared ++ bytes in
    let behind_place = offset_bytes listed ++ behind_offsets in
    let behind_flags = u32_bytes (data_at shared n) ++ behind_place in
    let behind_count = u16_bytes 1 ++ behind_flags in
    let behind_tuples = u16_bytes n ++ behind_count in
    let first : AreBytes behind_offsets =
    both shared bytes of_shared (of_data of_glyph 0 n (λ g low. are g (omega arith))) in
    let second : AreBytes behind_place =
    both (offset_bytes listed) behind_offsets (of_offsets 0 listed (omega arith)) first in
    let third : AreBytes behind_flags =
    both (u32_bytes (data_at shared n)) behind_place (of_u32 (data_at shared n) place) second in
    let fourth : AreBytes behind_count = both (u16_bytes 1) behind_flags (of_u16 1 (omega arith)) third in
    let fifth : AreBytes behind_tuples = both (u16_bytes n) behind_count (of_u16 n few) fourth in
    both front (u32_bytes (tuples_at n) ++ behind_tuples) of_front
    (both (u32_bytes (tuples_at n)) behind_tuples (of_u32 (tuples_at n) (omega arith)) fifth)
