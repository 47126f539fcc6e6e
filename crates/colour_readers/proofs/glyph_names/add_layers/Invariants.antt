use Rattle.std.proofs.Common.{◌≡◌, ◌++◌, drop, map}
use Rattle.colour_readers.proofs.glyph_names.add_layers.Given as goal

abbrev pub invariant-loop-j : goal.invariant-loop-j
invariant-loop-j g l =
    l.names.items ++ map (λ layer. layer.glyph) (drop l.j l.layers)
    ≡ l.initial.names.items ++ map (λ layer. layer.glyph) l.layers
