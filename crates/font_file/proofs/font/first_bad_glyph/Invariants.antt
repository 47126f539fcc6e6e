use Rattle.std.proofs.Common.{◌≡◌, ◌-◌, find}
use Rattle.std.specs.List.{range_with_len}
use Rattle.font_tables.specs.Fields.{glyph_count_of}
use Rattle.font_file.specs.Font.{is_bad_glyph}
use Rattle.font_file.proofs.font.first_bad_glyph.Given as goal

-- the first bad glyph is the first of those that are left
abbrev pub invariant-loop-g : goal.invariant-loop-g
invariant-loop-g l = let count = glyph_count_of l.tables in
    find (is_bad_glyph l.tables) (range_with_len 0 count) ≡ find (is_bad_glyph l.tables)
    (range_with_len l.g (count - l.g))
