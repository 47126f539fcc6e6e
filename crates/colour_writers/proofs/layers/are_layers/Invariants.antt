use Rattle.std.proofs.Common.{◌≡◌, drop, nat_lt}
use Rattle.std.specs.List.{list_all}
use Rattle.colour_writers.proofs.layers.are_layers.Given as goal

abbrev pub invariant-loop-j : goal.invariant-loop-j
invariant-loop-j l =
    list_all (λ layer. nat_lt layer.glyph l.n) (drop l.j l.layers) ≡ list_all (λ layer. nat_lt layer.glyph l.n) l.layers
