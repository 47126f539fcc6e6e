use Rattle.std.proofs.Common.{length}
use Rattle.font_glyph.specs.Record.{IsChain}
use Rattle.font_glyph.proofs.record.check_chain.Given as goal

abbrev pub invariant-loop-component : goal.invariant-loop-component
invariant-loop-component l = record {
  into : IsChain l.glyphs l.rest → IsChain l.glyphs l.b;
  out : IsChain l.glyphs l.b
      → IsChain l.glyphs l.rest;
}

abbrev pub decreases-loop-component : goal.decreases-loop-component
decreases-loop-component l = length l.rest
