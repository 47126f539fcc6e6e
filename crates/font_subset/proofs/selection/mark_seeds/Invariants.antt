use Rattle.std.proofs.Common.{option_copied, ◌≡◌, ◌-◌, length}
use Rattle.codes.specs.CharacterMap.{restricted}
use Rattle.font_subset.specs.KeptGlyphs.{codes_wanted}
use Rattle.font_tables.specs.Fields.{glyph_count_of}
use Rattle.font_file.specs.Font.{map_of}
use Rattle.font_subset.specs.Inside.{AreSeedsTo}
use Rattle.font_subset.proofs.selection.mark_seeds.Given as goal

abbrev pub invariant-loop-run : goal.invariant-loop-run
invariant-loop-run g l = record {
  count : length l.seeds ≡ glyph_count_of l.font;
  seeds : AreSeedsTo (restricted (codes_wanted (option_copied l.wanted)) (map_of l.font)) l.from l.seeds;
}

abbrev pub decreases-loop-run : goal.decreases-loop-run
decreases-loop-run g l = 0x110000 - l.from
