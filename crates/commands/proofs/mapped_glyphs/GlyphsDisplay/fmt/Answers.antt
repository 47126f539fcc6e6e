use Rattle.std.proofs.Common.{rules, [], ◌++◌}
use Rattle.std.proofs.Output.{has_written_append, has_written_of_eq}
use Rattle.commands.specs.MappedGlyphs.{glyph_line}
use Rattle.commands.proofs.GlyphsLemmas.{code_then_rest, codes_from, fewer_left, text_begins}
use Rattle.commands.proofs.LineLemmas.{flat_map-moves}
use Rattle.commands.proofs.mapped_glyphs.GlyphsDisplay.fmt.Goals as goal

pub loop-place-init : goal.loop-place-init
loop-place-init g c =
    let begun = codes_from _ 0 _ c.place_from-place.ensures in (
      begun.0,
      λ plain. ([], text_begins _ _ begun.1, search (rules, plain)),
    )

pub loop-place-smaller : goal.loop-place-smaller
loop-place-smaller g c = fewer_left _ c.in-Some.here _ _ c.in-Some.is c.loop-place.invariant.0
    c.place_after-place.ensures

pub loop-place-preserved : goal.loop-place-preserved
loop-place-preserved g c =
    let next = codes_from _ _ _ c.place_after-place.ensures in (
      next.0,
      λ plain.
          let before = c.loop-place.invariant.1 plain in
          let text = glyph_line c.args.self.now in
          let code = c.in-Some.here.code in (
            before.0 ++ text code,
            flat_map-moves text _ before.0 code _ _ before.1 (code_then_rest _ c.in-Some.here _ _ c.in-Some.is next.1),
            has_written_append _ _ _ _ _ _ before.2 (has_written_of_eq _ _ _ _ _ c.line-line.ensures (search rules)),
          ),
    )
