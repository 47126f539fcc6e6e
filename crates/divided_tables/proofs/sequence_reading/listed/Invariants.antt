use Rattle.std.proofs.Common.{◌≡◌, ◌++◌}
use Rattle.std.specs.List.{filter_map}
use Rattle.variation_sequences.specs.Pairs.{pair_of}
use Rattle.divided_tables.proofs.sequence_reading.listed.Given as goal

abbrev pub invariant-loop-entry : goal.invariant-loop-entry
invariant-loop-entry g l =
    l.pairs.items ++ filter_map (λ e. pair_of l.count (g.M.CodeMap.glyph_of l.map e.code) e) l.entry-iterator
    ≡ filter_map (λ e. pair_of l.count (g.M.CodeMap.glyph_of l.map e.code) e) l.fn.entries
