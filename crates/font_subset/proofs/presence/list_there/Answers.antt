use Rattle.std.proofs.Common.{◌≡◌, ◌∙◌, arith}
use Rattle.font_tables.specs.Fields.{glyph_count_of}
use Rattle.font_subset.proofs.PresenceLemmas.{all_there}
use Rattle.font_subset.proofs.presence.list_there.Goals as goal

pub returns-clause-glyphs : goal.returns-clause-glyphs
returns-clause-glyphs g c = λ h.
    let all : c.loop-g.g ≡ glyph_count_of c.args.presence.now.1 =
    omega (arith, c.loop-g-test.false, c.loop-g.auto.g-end, c.glyph_count-g-end.ensures) in
    c.loop-g.invariant h ∙ all_there c.args.presence.now.0 c.args.presence.now.1 c.loop-g.g all h
