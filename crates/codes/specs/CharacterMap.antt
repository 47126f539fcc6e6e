-- Character maps: functions from a code point to its glyph, where 0 is "not mapped" (OpenType 1.9, cmap).
use Rattle.std.specs.Prelude.{◌≡◌, ℕ, ◌<◌, ◌≤◌, nat_lt, nat_le, nat_eq, Bool, ◌&&◌, ◌||◌, count_by, if◌then◌else◌}
use Rattle.std.specs.List.{range_with_len}
use Rattle.codes.specs.declared.code_points.TheConstants.{CODES, LAST_CODE}

-- a map of code points, which end at 0x10FFFF, to glyph numbers, which have 16 bits
pub record IsCharacterMap (m : ℕ → ℕ) : Type 0 where
  pub codes : (c : ℕ) → CODES ≤ c → m c ≡ 0
  pub glyphs : (c : ℕ) → m c < 65536

-- no code from a given one on up to a stop is mapped
abbrev pub IsUnmapped : (ℕ → ℕ) → ℕ → ℕ → Type 0
IsUnmapped m from stop = (c : ℕ) → from ≤ c → c < stop → m c ≡ 0

-- two maps are the same from one code on up to a stop
abbrev pub AreSame : (ℕ → ℕ) → (ℕ → ℕ) → ℕ → ℕ → Type 0
AreSame m k from stop = (c : ℕ) → from ≤ c → c < stop → m c ≡ k c

-- a map to the glyphs below n, of the codes up to 0x10FFFF
abbrev pub clipped : ℕ → (ℕ → ℕ) → ℕ → ℕ
clipped n m c = if nat_lt (m c) n && nat_le c LAST_CODE then m c else 0

-- a map on the codes of a set
abbrev pub restricted : (ℕ → Bool) → (ℕ → ℕ) → ℕ → ℕ
restricted wanted m c = if wanted c then m c else 0

-- the union of two maps: the first decides where it maps a code
abbrev pub united : (ℕ → ℕ) → (ℕ → ℕ) → ℕ → ℕ
united m k c = if nat_eq (m c) 0 then k c else m c

-- two maps give no code two glyphs
abbrev pub AreCompatible : (ℕ → ℕ) → (ℕ → ℕ) → Type 0
AreCompatible m k = (c : ℕ) → 0 < m c → 0 < k c → m c ≡ k c

-- a code is mapped
abbrev pub is_mapped : (ℕ → ℕ) → ℕ → Bool
is_mapped m c = nat_lt 0 (m c)

-- how many of the n codes from a given one on are mapped
unfoldable pub mapped_among : (ℕ → ℕ) → ℕ → ℕ → ℕ
mapped_among m from n = count_by (is_mapped m) (range_with_len from n)

-- how many codes are mapped
unfoldable pub mapped_codes : (ℕ → ℕ) → ℕ
mapped_codes m = mapped_among m 0 CODES

-- restrictions and unions are character maps, and follow from each other as those of sets do
pub record MapLaws : Type 0 where
  pub restricted_is_map : (w : ℕ → Bool) (m : ℕ → ℕ) → IsCharacterMap m → IsCharacterMap (restricted w m)
  pub united_is_map : (m k : ℕ → ℕ) → IsCharacterMap m → IsCharacterMap k → IsCharacterMap (united m k)
  pub within_both :
      (v w : ℕ → Bool) (m : ℕ → ℕ) → restricted v (restricted w m) ≡ restricted (λ c. v c && w c) m
  pub within_either :
      (v w : ℕ → Bool) (m : ℕ → ℕ) → united (restricted v m) (restricted w m) ≡ restricted (λ c. v c || w c) m
  pub of_a_union :
      (w : ℕ → Bool) (m k : ℕ → ℕ) → restricted w (united m k) ≡ united (restricted w m) (restricted w k)
  pub itself : (m : ℕ → ℕ) → united m m ≡ m
  pub in_turn : (m k l : ℕ → ℕ) → united (united m k) l ≡ united m (united k l)
  pub either_first : (m k : ℕ → ℕ) → AreCompatible m k → united m k ≡ united k m
