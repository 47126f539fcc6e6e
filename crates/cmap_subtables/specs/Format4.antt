-- Segments, with all bytes of `cmap` after them (OpenType 1.9, cmap, Format 4: Segment mapping to delta
-- values).
use Rattle.std.specs.Prelude.{ℕ, ◌+◌, ◌-◌, ◌*◌, ◌/◌, ◌%◌, ◌≤◌, Bool, nat_le, nat_lt, nat_eq, List, length, map, find}
use Rattle.std.specs.Prelude.{if◌then◌else◌}
use Rattle.std.specs.List.{range_with_len}
use Rattle.std.specs.Option.{option_map_or}
use Rattle.sfnt_bytes.specs.Number.{u16_at}
use Rattle.codes.specs.Order.{AreInOrder}
use Rattle.cmap_subtables.specs.declared.format4.Segment.{Segment}

-- segCountX2, halved
unfoldable pub segment_count : List ℕ → ℕ
segment_count s = u16_at s 6 / 2

-- all segments lie within the bytes
abbrev pub HasSegments : List ℕ → Type 0
HasSegments s = 16 + 8 * segment_count s ≤ length s

-- segment i: startCode, endCode, idDelta, idRangeOffset, and the place of the last
unfoldable pub segment_in : List ℕ → ℕ → Segment
segment_in s i = let n = segment_count s in
    record {
      first = u16_at s (16 + 2 * n + 2 * i);
      last = u16_at s (14 + 2 * i);
      delta = u16_at s (16 + 4 * n + 2 * i);
      offset = u16_at s (16 + 6 * n + 2 * i);
      place = 16 + 6 * n + 2 * i;
    }

-- all segments, as they are listed
unfoldable pub segments_of : List ℕ → List Segment
segments_of s = map (segment_in s) (range_with_len 0 (segment_count s))

-- a segment ends at a code or above it
abbrev pub reaches : ℕ → Segment → Bool
reaches c segment = nat_le c segment.last

-- the entry of glyphIdArray at a place, and 0 where it does not lie within `cmap`
unfoldable pub entry_or_zero : List ℕ → ℕ → ℕ
entry_or_zero s at = if nat_le (at + 2) (length s) then u16_at s at else 0

-- what a segment gives a code up to its end
unfoldable pub glyph_by : List ℕ → Segment → ℕ → ℕ
glyph_by s segment c =
    let entry = entry_or_zero s (segment.place + segment.offset + 2 * (c - segment.first)) in
    if nat_lt c segment.first then 0
    else if nat_eq segment.offset 0 then (c + segment.delta) % 65536
    else if nat_eq entry 0 then 0
    else (entry + segment.delta) % 65536

-- the glyph of a code by the first listed segment that ends at the code or above it; 0 where none does, and
-- above 0xFFFF
unfoldable pub segment_glyph : List ℕ → ℕ → ℕ
segment_glyph s c =
    if nat_lt 0xFFFF c then 0
    else option_map_or (λ segment. glyph_by s segment c) (find (reaches c) (segments_of s)) 0

-- each segment lies strictly above the one before it
abbrev pub HasOrderedSegments : List ℕ → Type 0
HasOrderedSegments s = AreInOrder (λ segment. segment.first) (λ segment. segment.last) 0 (segments_of s)
