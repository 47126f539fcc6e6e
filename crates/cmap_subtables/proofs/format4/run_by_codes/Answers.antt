use Rattle.std.proofs.Common.{◌≡◌, ℕ, ap, subst, sym, ◌∙◌, arith}
use Rattle.codes.specs.CharacterMap.{clipped}
use Rattle.cmap_subtables.specs.Inside.{glyph_of_segment}
use Rattle.codes.specs.Runs.{IsPiece}
use Rattle.codes.specs.declared.runs.Run.{Run}
use Rattle.cmap_subtables.proofs.SegmentLemmas.{piece_of_code, segment_gives}
use Rattle.cmap_subtables.proofs.format4.run_by_codes.Goals as goal

pub returns-then-glyph-ne0 : goal.returns-then-glyph-ne0
returns-then-glyph-ne0 c =
    let code : ℕ = c.loop-code.code in
    let m : ℕ → ℕ = clipped c.args.glyphs (glyph_of_segment c.args.s.now c.args.segment) in
    let is : c.clip-glyph.result ≡ m code =
    segment_gives c.args.s.now c.args.segment c.args.glyphs code c.clip-glyph.result (omega arith)
    (c.clip-glyph.ensures ∙ ap (λ (y : ℕ). clipped c.args.glyphs (λ _. y) code) (c.from.ensures
    ∙ c.glyph_by.ensures)) in
    let one : IsPiece m c.args.from (record { first = code; last = code; glyph = c.clip-glyph.result }) =
    piece_of_code m c.args.from code c.clip-glyph.result (omega arith) c.loop-code.invariant (omega arith) (omega arith)
    (omega arith) is in
    c.along_codes.ensures c.args.from (subst (λ (run : Run). IsPiece m c.args.from run) (sym c.of_code.ensures) one)
