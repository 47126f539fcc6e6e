-- The outlines that `loca` and `glyf` give back.
use Rattle.std.proofs.Common.{◌≡◌, ℕ, zero, suc, ◌+◌, ◌*◌, ◌<◌, ◌≤◌, List, [], ◌∷◌, ◌++◌, get_or, find}
use Rattle.std.proofs.Common.{take, length, refl, sym, ap, ◌∙◌, arith, None, zero-add}
use Rattle.std.specs.List.{concat, range_with_len}
use Rattle.std.proofs.lemmas.List.{append-nil, length-append}
use Rattle.std.proofs.lemmas.List.FromFn.{get_or-map-range_with_len, length-map-range_with_len}
use Rattle.sfnt_bytes.specs.Number.{u32_at}
use Rattle.font_tables.specs.Outlines.{offset_at, outline_in}
use Rattle.font_tables.specs.Refusals.{is_bad_offset}
use Rattle.font_tables.specs.declared.loca.LocaForm.TheVariants.{Long}
use Rattle.font_tables.proofs.OffsetLemmas.{none_is_bad}
use Rattle.font_tables.proofs.OutlineLemmas.{falls-led, last-led, LeadTo, outline_in-led, start_of}
use Rattle.font_glyph.specs.RecordMap.{record_in}
use Rattle.font_theory.specs.Content.{Content, glyph_count}
use Rattle.font_theory.specs.File.{loca_bytes, offsets_from, outlines_of}
use Rattle.font_variations.proofs.NumberLemmas.{length-u32_bytes, u32_at-flat_map}

length-offsets_from : (at : ℕ) (outlines : List (List ℕ)) → length (offsets_from at outlines) ≡ suc (length outlines)
length-offsets_from at [] = refl
length-offsets_from at (outline ∷ outlines) = ap suc (length-offsets_from (at + length outline) outlines)

offsets_from-at : (outlines : List (List ℕ)) (at i : ℕ) → i ≤ length outlines → get_or (offsets_from at outlines) i 0
    ≡ at + start_of i outlines
offsets_from-at [] at zero low = omega arith
offsets_from-at [] at (suc i) low = absurd (omega arith)
offsets_from-at (outline ∷ outlines) at zero low = omega arith
offsets_from-at (outline ∷ outlines) at (suc i) low =
    let rest = offsets_from-at outlines (at + length outline) i (omega arith) in
    omega (arith, rest, length-append outline (concat (take i outlines)))

pub length-loca_bytes : (outlines : List (List ℕ)) → length (loca_bytes outlines) ≡ 4 * (length outlines + 1)
unfolding loca_bytes
length-loca_bytes outlines = omega (arith, length-u32_bytes (offsets_from 0 outlines), length-offsets_from 0 outlines)

-- the offsets of `loca` lead to the outlines
loca_bytes-lead : (outlines : List (List ℕ)) → LeadTo (loca_bytes outlines) outlines
unfolding offset_at loca_bytes
loca_bytes-lead outlines i low =
    let offsets = offsets_from 0 outlines in
    let long = length-offsets_from 0 outlines in
    ap (λ (b : List ℕ). u32_at b (4 * i)) (sym (append-nil (loca_bytes outlines)))
    ∙ u32_at-flat_map offsets [] i (omega arith) ∙ offsets_from-at outlines 0 i low ∙ zero-add (start_of i outlines)

-- each outline is read back
pub outline_in-written : (outlines : List (List ℕ)) (z : List ℕ) (g : ℕ) → g < length outlines
    → outline_in Long (loca_bytes outlines) (concat outlines ++ z) g ≡ get_or outlines g []
outline_in-written outlines z g inside =
    outline_in-led (loca_bytes outlines) outlines z g (loca_bytes-lead outlines) inside

-- no offset is bad
pub no_bad_offset : (outlines : List (List ℕ)) (z : List ℕ)
    → find (is_bad_offset Long (loca_bytes outlines) (length (concat outlines ++ z)))
    (range_with_len 0 (length outlines + 1)) ≡ None
no_bad_offset outlines z =
    let n = length outlines in
    let size = length-loca_bytes outlines in
    let end = last-led (loca_bytes outlines) outlines (loca_bytes-lead outlines) in
    let both = length-append (concat outlines) z in
    none_is_bad Long (loca_bytes outlines) (length (concat outlines ++ z)) n (omega arith) (omega arith)
    (falls-led (loca_bytes outlines) outlines n (loca_bytes-lead outlines) (omega arith))

-- the outlines of a content
pub length-outlines_of : (K : Content) → length (outlines_of K) ≡ glyph_count K.copied
unfolding outlines_of
length-outlines_of K = length-map-range_with_len (record_in K.outline) 0 (glyph_count K.copied)

pub outlines_of-at : (K : Content) (g : ℕ) → g < glyph_count K.copied
    → get_or (outlines_of K) g [] ≡ record_in K.outline g
unfolding outlines_of
outlines_of-at K g inside = get_or-map-range_with_len (record_in K.outline) 0 (glyph_count K.copied) g g [] inside
    (omega arith)
