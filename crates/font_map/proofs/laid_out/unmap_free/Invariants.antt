use Rattle.std.proofs.Common.{◌≡◌, ◌≢◌, ℕ, ◌<◌, ◌≤◌, get_or, length}
use Rattle.font_map.proofs.laid_out.unmap_free.Given as goal

abbrev pub invariant-loop-code : goal.invariant-loop-code
invariant-loop-code l =
    record {
      codes : length l.glyphs ≡ 0x110000;
      free : (c : ℕ) → c < l.code → get_or l.fn.glyphs c 0 ≡ 0xFFFF → get_or l.glyphs c 0 ≡ 0;
      taken : (c : ℕ) → c < l.code → get_or l.fn.glyphs c 0 ≢ 0xFFFF → get_or l.glyphs c 0 ≡ get_or l.fn.glyphs c 0;
      rest : (c : ℕ) → l.code ≤ c → get_or l.glyphs c 0 ≡ get_or l.fn.glyphs c 0;
    }
