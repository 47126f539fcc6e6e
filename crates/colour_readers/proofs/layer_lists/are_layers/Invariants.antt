use Rattle.std.proofs.Common.{◌≡◌, drop, nat_lt}
use Rattle.std.specs.List.{list_all}
use Rattle.colour_tables.specs.LayerLists.{layers_of}
use Rattle.colour_readers.proofs.layer_lists.are_layers.Given as goal

abbrev pub invariant-loop-j : goal.invariant-loop-j
invariant-loop-j l =
    list_all (λ layer. nat_lt layer.glyph l.n) (layers_of l.t l.fn.base)
    ≡ list_all (λ layer. nat_lt layer.glyph l.n) (drop l.j (layers_of l.t l.fn.base))
