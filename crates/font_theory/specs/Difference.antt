-- The first difference of two contents, this project's own.
use Rattle.std.specs.Prelude.{ℕ, ◌+◌, nat_eq, nat_lt, not, Bool, false, ◌&&◌, ◌||◌, List, [], ◌∷◌, find, if◌then◌else◌}
use Rattle.std.specs.Prelude.{Option, Some}
use Rattle.std.specs.List.{range_with_len}
use Rattle.std.specs.Option.{option_eq, option_map}
use Rattle.std.specs.Str.{bytes_eq}
use Rattle.sfnt_bytes.specs.Directory.{slot_at}
use Rattle.sfnt_bytes.specs.Lines.{first_of_lines}
use Rattle.sfnt_bytes.specs.declared.tag.TheConstants.{ALL_SLOTS, HEAD}
use Rattle.font_glyph.specs.Reach.{any_below}
use Rattle.font_theory.specs.Content.{CODES, Content, glyph_count}
use Rattle.font_theory.specs.declared.Difference.{Difference}
use Rattle.font_theory.specs.declared.Difference.TheVariants.{AtCode, AtGlyph, AtTable}
use Rattle.font_theory.specs.declared.kinds.TheConstants.{SEQUENCES}

-- a copied table that one lacks or that differs, or `head`
unfoldable pub is_different_table : Content → Content → ℕ → Bool
is_different_table K L slot =
    if nat_eq slot HEAD then not (bytes_eq K.head L.head)
    else not (option_eq bytes_eq (K.copied slot) (L.copied slot))

-- both map the code, to two glyphs
unfoldable pub is_different_code : Content → Content → ℕ → Bool
is_different_code K L c = nat_lt 0 (K.map c) && (nat_lt 0 (L.map c) && not (nat_eq (K.map c) (L.map c)))

-- how many slots may have parts
unfoldable pub PARTED : ℕ
PARTED = SEQUENCES + 1

-- two contents have another part of a glyph
unfoldable pub has_other_part : Content → Content → ℕ → Bool
has_other_part K L g = any_below (λ slot. not (bytes_eq (K.parts slot g) (L.parts slot g))) PARTED

-- one of two holds, and the other does not
abbrev pub are_apart : Bool → Bool → Bool
are_apart a b = if a then not b else b

-- both outlines are kept, and they or the parts differ
abbrev pub are_different : Option (List ℕ) → Option (List ℕ) → Bool → Bool
are_different (Some a) (Some b) other = not (bytes_eq a b) || other
are_different _ _ _ = false

-- both keep the glyph, with two outlines or with two parts in a slot, or it is there in one alone
unfoldable pub is_different_glyph : Content → Content → ℕ → Bool
is_different_glyph K L g = are_different (K.outline g) (L.outline g) (has_other_part K L g || are_apart (K.there g)
    (L.there g))

-- the first slot in order of tag that passes a test
abbrev pub first_slot : (ℕ → Bool) → Option ℕ
first_slot p = option_map slot_at (find (λ place. p (slot_at place)) (range_with_len 0 ALL_SLOTS))

-- the table of the least tag, else the least code, else the least glyph
unfoldable pub difference : Content → Content → Option Difference
difference K L = first_of_lines
    (option_map AtTable (first_slot (is_different_table K L))
    ∷ option_map AtCode (find (is_different_code K L) (range_with_len 0 CODES))
    ∷ option_map AtGlyph (find (is_different_glyph K L) (range_with_len 0 (glyph_count K.copied)))
    ∷ [])
