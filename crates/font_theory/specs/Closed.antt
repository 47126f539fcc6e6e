-- What is wanted, closed under the links of GSUB: no cut follows links, so whoever wants shaped text wants what they
-- lead to too.
use Rattle.std.specs.Prelude.{ℕ, nat_lt, Bool, ◌&&◌, ◌||◌, List, [], Option, if◌then◌else◌}
use Rattle.sfnt_bytes.specs.Lines.{when}
use Rattle.sfnt_bytes.specs.declared.tag.TheConstants.{GSUB}
use Rattle.codes.specs.CharacterMap.{restricted}
use Rattle.font_glyph.specs.Linked.{is_linked}
use Rattle.font_glyph.specs.Reach.{reached}
use Rattle.font_glyph.specs.declared.linked.TheConstants as numbers
use Rattle.font_theory.specs.Bytes.{padded}
use Rattle.font_theory.specs.Content.{Content, Font, Wanted, glyph_count, is_seed, table_in_slot}
use Rattle.font_theory.specs.Links.{is_unreadable_gsub, links}

-- `GSUB` cannot be read: then there is no closure, as there are cuts none the less
unfoldable pub is_bad_layout_in : (ℕ → Option (List ℕ)) → Bool
is_bad_layout_in copied = is_unreadable_gsub (table_in_slot copied GSUB)

-- how many numbers a table may name glyphs by: 0 to 0xFFFF (OpenType 1.9, Data Types, uint16)
unfoldable pub NUMBERS : ℕ
NUMBERS = numbers.NUMBERS

-- where chains of links begin: at .notdef, at the glyph of a wanted code, and at a wanted glyph
unfoldable pub is_start : (ℕ → ℕ) → Wanted → ℕ → Bool
is_start m wanted g = is_seed (restricted wanted.codes m) g || wanted.glyphs g

-- what is wanted, with all glyphs that links lead to; a chain may lead over numbers that are no glyphs
unfoldable pub closed : (ℕ → List ℕ) → (ℕ → ℕ) → Wanted → Wanted
closed links m wanted =
    record { codes = wanted.codes; glyphs = is_linked links (is_start m wanted) NUMBERS }

-- a glyph is linked from .notdef or from the glyph of a wanted code
unfoldable pub is_linked_root : (ℕ → List ℕ) → Font → (ℕ → Bool) → ℕ → Bool
is_linked_root links F codes g =
    nat_lt g (glyph_count F.copied) && is_linked links (is_seed (restricted codes F.map)) NUMBERS g

-- what components lead to from there
unfoldable pub is_linked_kept : (ℕ → List ℕ) → Font → (ℕ → Bool) → ℕ → Bool
is_linked_kept links F codes g = reached F.outline (is_linked_root links F codes) (glyph_count F.copied) g

-- what a cut that follows links itself is made of: it keeps glyphs too that are not there
abbrev pub linked_content : (ℕ → List ℕ) → Font → (ℕ → Bool) → Content
linked_content links F codes = record {
  copied = F.copied;
  head = F.head;
  map = restricted codes F.map;
  outline = λ g. when (is_linked_kept links F codes g) (padded (F.outline g));
  parts = λ slot g. if is_linked_kept links F codes g then F.parts slot g else [];
  there = λ g. is_linked_kept links F codes g && F.there g;
}
