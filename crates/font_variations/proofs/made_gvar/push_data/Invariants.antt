use Rattle.std.proofs.Common.{◌≡◌, ◌++◌, drop, map}
use Rattle.std.specs.List.{concat}
use Rattle.font_variations.proofs.made_gvar.push_data.Given as goal

abbrev pub invariant-loop-bytes : goal.invariant-loop-bytes
invariant-loop-bytes g l =
    l.made.items ++ concat (map (λ d. d.now) (drop l.bytes-index l.glyph_data))
    ≡ l.initial.made.items ++ concat (map (λ d. d.now) l.glyph_data)
