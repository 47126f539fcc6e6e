-- Data that are given in a list, and the parts of a `gvar` that is made of them, one after another.
use Rattle.std.proofs.Common.{◌≡◌, ℕ, List, [], ◌++◌, length, refl, sym, ap, ◌∙◌, append_assoc}
use Rattle.std.proofs.Common.{arith, slice_index_or}
use Rattle.std.specs.List.{concat}
use Rattle.std.proofs.lemmas.List.{ext_get_or}
use Rattle.std.proofs.lemmas.List.FromFn.{get_or-map-range_with_len, length-map-range_with_len}
use Rattle.font_variations.specs.MadeGvar.{data_at, gvar_bytes, listed_data, offset_bytes, tuples_at, u16_bytes}
use Rattle.font_variations.specs.MadeGvar.{u32_bytes}

-- what a list has at each of its indices is the list
pub listed_by_index : (listed : List (List ℕ)) (n : ℕ) → length listed ≡ n
    → listed_data (λ g. slice_index_or listed g []) n ≡ listed
listed_by_index listed n count =
    let at : ℕ → List ℕ = λ g. slice_index_or listed g [] in
    let size = length-map-range_with_len at 0 n in
    ext_get_or [] (listed_data at n) listed (size ∙ sym count)
    (λ g low. get_or-map-range_with_len at 0 n g g [] (omega (arith, low, size)) (omega arith))

-- a table is that of a function of glyphs if the list has what the function gives
pub made_of_listed : (front shared : List ℕ) (of_glyph : ℕ → List ℕ) (n : ℕ) (listed : List (List ℕ))
    → listed ≡ listed_data of_glyph n
    → gvar_bytes front shared (λ g. slice_index_or listed g []) n ≡ gvar_bytes front shared of_glyph n
unfolding gvar_bytes
made_of_listed front shared of_glyph n listed same =
    let count = ap length same ∙ length-map-range_with_len of_glyph 0 n in
    let all = listed_by_index listed n count ∙ same in
    λ i. front ++ (u32_bytes (tuples_at n) ++ (u16_bytes n ++ (u16_bytes 1 ++ (u32_bytes (data_at shared n)
    ++ (offset_bytes (all i) ++ (shared ++ concat (all i)))))))

nested : (a b c d e f g h : List ℕ)
    → a ++ b ++ c ++ d ++ e ++ f ++ g ++ h ≡ a ++ (b ++ (c ++ (d ++ (e ++ (f ++ (g ++ h))))))
nested a b c d e f g h = simp append_assoc refl

-- the parts of a table, and what it has after each of them
pub parts_are_gvar : (front shared : List ℕ) (listed : List (List ℕ)) (n : ℕ)
    (empty header offsets tuples made : List ℕ) → length listed ≡ n → empty ≡ []
    → header ≡ empty ++ front ++ u32_bytes (tuples_at n) ++ u16_bytes n ++ u16_bytes 1 ++ u32_bytes (data_at shared n)
    → offsets ≡ header ++ offset_bytes listed → tuples ≡ offsets ++ shared → made ≡ tuples ++ concat listed
    → made ≡ gvar_bytes front shared (λ g. slice_index_or listed g []) n
unfolding gvar_bytes
parts_are_gvar front shared listed n empty header offsets tuples made count none first second third last =
    let all = sym (listed_by_index listed n count) in
    rw (last, third, second, first, none)
    (nested front (u32_bytes (tuples_at n)) (u16_bytes n) (u16_bytes 1) (u32_bytes (data_at shared n))
    (offset_bytes listed) shared (concat listed)
    ∙ λ i. front ++ (u32_bytes (tuples_at n) ++ (u16_bytes n ++ (u16_bytes 1 ++ (u32_bytes (data_at shared n)
    ++ (offset_bytes (all i) ++ (shared ++ concat (all i))))))))
