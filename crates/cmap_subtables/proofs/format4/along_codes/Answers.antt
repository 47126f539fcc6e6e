use Rattle.std.proofs.Common.{◌≡◌, ℕ, ◌+◌, ap, ◌∙◌, arith}
use Rattle.codes.specs.CharacterMap.{clipped}
use Rattle.cmap_subtables.specs.Inside.{glyph_of_segment}
use Rattle.codes.proofs.RunLemmas.{code_on}
use Rattle.cmap_subtables.proofs.SegmentLemmas.{segment_gives}
use Rattle.cmap_subtables.proofs.format4.along_codes.Goals as goal

pub loop-run-preserved : goal.loop-run-preserved
loop-run-preserved c =
    let code : ℕ = c.loop-run.run.last + 1 in
    let is : c.clip-glyph.result ≡ clipped c.args.glyphs (glyph_of_segment c.args.s.now c.args.segment) code =
    segment_gives c.args.s.now c.args.segment c.args.glyphs code c.clip-glyph.result
    (omega (arith, c.loop-run.invariant.bound))
    (c.clip-glyph.ensures ∙ ap (λ (y : ℕ). clipped c.args.glyphs (λ _. y) code) (c.from-in-loop-run.ensures
    ∙ c.glyph_by.ensures)) in
    record {
      bound = c.loop-run.invariant.bound;
      order = omega (arith, c.loop-run.invariant.order);
      piece = λ from h. code_on _ from code c.clip-glyph.result c.loop-run.run (c.loop-run.invariant.piece from h)
          (omega arith) (omega arith) is (omega arith) (omega arith);
    }
