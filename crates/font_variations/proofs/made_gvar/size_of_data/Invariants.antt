use Rattle.std.proofs.Common.{◌≡◌, ◌+◌, drop, length, map}
use Rattle.std.specs.List.{concat}
use Rattle.font_variations.proofs.made_gvar.size_of_data.Given as goal

abbrev pub invariant-loop-bytes : goal.invariant-loop-bytes
invariant-loop-bytes l =
    l.size + length (concat (map (λ d. d.now) (drop l.bytes-index l.glyph_data)))
    ≡ length (concat (map (λ d. d.now) l.glyph_data))
