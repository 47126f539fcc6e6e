-- Words of proofs, and of contracts of calls that `font_map` does not pass on.
use Rattle.cmap_subtables.specs.Format12.{groups_of}
use Rattle.cmap_subtables.specs.Format4.{segments_of, reaches, glyph_by}
use Rattle.cmap_subtables.specs.declared.format12.ListedGroup.{ListedGroup}
use Rattle.cmap_subtables.specs.declared.format4.Segment.{Segment}
use Rattle.std.specs.Prelude.{ℕ, ◌+◌, ◌&&◌, nat_le, List, slice_index_or, if◌then◌else◌, ◌%◌}

-- the group at a place of a list
abbrev pub group_nth : List ListedGroup → ℕ → ListedGroup
group_nth groups i = slice_index_or groups i (record { first = 0; last = 0; glyph = 0 })

-- the end of the group at a place
abbrev pub group_end : List ℕ → ℕ → ℕ
group_end s i = (group_nth (groups_of s) i).last

-- the segment at a place of a list
abbrev pub segment_nth : List Segment → ℕ → Segment
segment_nth segments i =
    slice_index_or segments i (record { first = 0; last = 0; delta = 0; offset = 0; place = 0 })

-- the end of the segment at a place
abbrev pub segment_end : List ℕ → ℕ → ℕ
segment_end s i = (segment_nth (segments_of s) i).last

-- the glyph of a code by one segment alone
abbrev pub glyph_of_segment : List ℕ → Segment → ℕ → ℕ
glyph_of_segment s segment c = if reaches c segment then glyph_by s segment c else 0

-- the glyph of a code by the delta of one segment alone
abbrev pub glyph_by_delta : Segment → ℕ → ℕ
glyph_by_delta segment c =
    if nat_le segment.first c && nat_le c segment.last then (c + segment.delta) % 65536 else 0
