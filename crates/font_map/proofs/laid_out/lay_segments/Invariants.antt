use Rattle.std.proofs.Common.{◌≡◌, ℕ, ◌<◌, ◌≤◌, get_or, length}
use Rattle.codes.specs.CharacterMap.{clipped}
use Rattle.cmap_subtables.specs.Format4.{segment_count, segment_glyph}
use Rattle.cmap_subtables.specs.Inside.{segment_end}
use Rattle.font_map.proofs.laid_out.lay_segments.Given as goal

abbrev pub invariant-loop-code : goal.invariant-loop-code
invariant-loop-code l =
    record {
      codes : length l.glyphs ≡ 0x110000;
      within : l.place ≤ segment_count l.s;
      before : (k : ℕ) → k < l.place → segment_end l.s k < l.code;
      done : (c : ℕ) → c < l.code → get_or l.glyphs c 0 ≡ clipped l.count (segment_glyph l.s) c;
      rest : (c : ℕ) → l.code ≤ c → get_or l.glyphs c 0 ≡ 0;
    }
