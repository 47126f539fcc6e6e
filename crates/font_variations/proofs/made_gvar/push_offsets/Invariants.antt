use Rattle.std.proofs.Common.{◌≡◌, ◌+◌, ◌++◌, drop, flat_map, length, map}
use Rattle.std.specs.List.{concat}
use Rattle.font_variations.specs.MadeGvar.{offset_bytes, offsets_after, u32_bytes}
use Rattle.font_variations.proofs.made_gvar.push_offsets.Given as goal

abbrev pub invariant-loop-bytes : goal.invariant-loop-bytes
invariant-loop-bytes g l =
    record {
      end : l.at + length (concat (map (λ d. d.now) (drop l.bytes-index l.glyph_data)))
          ≡ length (concat (map (λ d. d.now) l.glyph_data));
      put : l.made.items ++ flat_map u32_bytes (offsets_after l.at (map (λ d. d.now)
          (drop l.bytes-index l.glyph_data)))
          ≡ l.initial.made.items ++ offset_bytes (map (λ d. d.now) l.glyph_data);
    }
