-- The offsets and the data of a `gvar` that is made.
use Rattle.std.proofs.Common.{◌≡◌, ℕ, zero, suc, ◌+◌, ◌*◌, ◌<◌, ◌≤◌, false, List, [], ◌∷◌, ◌++◌, get_or}
use Rattle.std.proofs.Common.{take, length, refl, sym, ap, ◌∙◌, arith, zero-add}
use Rattle.std.specs.List.{concat}
use Rattle.std.proofs.lemmas.List.{append-nil, length-append}
use Rattle.font_tables.specs.Outlines.{falls, offset_at, outline_in}
use Rattle.font_tables.specs.declared.loca.LocaForm.TheVariants.{Long}
use Rattle.font_tables.proofs.OutlineLemmas.{falls-led, last-led, LeadTo, outline_in-led, start_of}
use Rattle.font_variations.specs.MadeGvar.{offset_bytes, offsets_after}
use Rattle.font_variations.proofs.NumberLemmas.{length-u32_bytes, u32_at-flat_map}

pub length-offsets_after : (at : ℕ) (listed : List (List ℕ)) → length (offsets_after at listed) ≡ suc (length listed)
length-offsets_after at [] = refl
length-offsets_after at (bytes ∷ others) = ap suc (length-offsets_after (at + length bytes) others)

offsets_after-at : (listed : List (List ℕ)) (at i : ℕ) → i ≤ length listed → get_or (offsets_after at listed) i 0
    ≡ at + start_of i listed
offsets_after-at [] at zero low = omega arith
offsets_after-at [] at (suc i) low = absurd (omega arith)
offsets_after-at (bytes ∷ others) at zero low = omega arith
offsets_after-at (bytes ∷ others) at (suc i) low =
    let rest = offsets_after-at others (at + length bytes) i (omega arith) in
    omega (arith, rest, length-append bytes (concat (take i others)))

pub length-offset_bytes : (listed : List (List ℕ)) → length (offset_bytes listed) ≡ 4 * (length listed + 1)
unfolding offset_bytes
length-offset_bytes listed =
    omega (arith, length-u32_bytes (offsets_after 0 listed), length-offsets_after 0 listed)

-- the offsets of a table that is made lead to its data, whatever stands after them
offset_bytes-lead : (listed : List (List ℕ)) (z : List ℕ) → LeadTo (offset_bytes listed ++ z) listed
unfolding offset_at offset_bytes
offset_bytes-lead listed z i low =
    let long = length-offsets_after 0 listed in
    u32_at-flat_map (offsets_after 0 listed) z i (omega arith) ∙ offsets_after-at listed 0 i low
    ∙ zero-add (start_of i listed)

pub outline_in-made : (listed : List (List ℕ)) (z : List ℕ) (g : ℕ) → g < length listed
    → outline_in Long (offset_bytes listed ++ z) (concat listed) g ≡ get_or listed g []
outline_in-made listed z g inside =
    let offsets = offset_bytes listed ++ z in
    ap (λ (b : List ℕ). outline_in Long offsets b g) (sym (append-nil (concat listed)))
    ∙ outline_in-led offsets listed [] g (offset_bytes-lead listed z) inside

pub last_offset : (listed : List (List ℕ)) (z : List ℕ)
    → offset_at Long (offset_bytes listed ++ z) (length listed) ≡ length (concat listed)
last_offset listed z = last-led (offset_bytes listed ++ z) listed (offset_bytes-lead listed z)

pub falls-offset_bytes : (listed : List (List ℕ)) (z : List ℕ) (last : ℕ) → last ≤ length listed
    → falls Long (offset_bytes listed ++ z) last ≡ false
falls-offset_bytes listed z last low = falls-led (offset_bytes listed ++ z) listed last (offset_bytes-lead listed z) low
