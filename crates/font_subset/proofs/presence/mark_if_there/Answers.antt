use Rattle.std.proofs.Common.{◌≤◌, ◌∙◌, ℕ, Bool, sym, arith}
use Rattle.font_tables.specs.Fields.{glyph_count_of}
use Rattle.font_theory.specs.Kinds.{font_of}
use Rattle.font_subset.proofs.PresenceLemmas.{none_at, none_past, numbered_marked, numbered_none}
use Rattle.font_subset.proofs.presence.mark_if_there.Goals as goal
use Rattle.font_subset.proofs.presence.mark_if_there.Goals.{
  else-g-glyph_count-via-then-g-glyph_count+then-not-has+else-has,
}
use Rattle.font_subset.proofs.presence.mark_if_there.Goals.{else-g-glyph_count-via-then-g-glyph_count+else-not-has}
use Rattle.font_subset.proofs.presence.mark_if_there.Goals.{else-g-glyph_count-via-else-g-glyph_count}

pub returns-else-g-glyph_count : goal.returns-else-g-glyph_count
returns-else-g-glyph_count g c =
    let there : ℕ → Bool = (font_of c.args.presence.now.0 c.args.presence.now.1).there in
    elim c.else-g-glyph_count.branch [
      | else-g-glyph_count-via-then-g-glyph_count+then-not-has+else-has w ↦
          numbered_none there _ c.args.marks.now (none_at there c.args.g
          (sym w.has-then-not-has.ensures ∙ w.if-has.false))
      | else-g-glyph_count-via-then-g-glyph_count+else-not-has w ↦
          numbered_marked there c.args.g c.args.marks.now (sym w.has.ensures ∙ w.if-not-has.false)
      | else-g-glyph_count-via-else-g-glyph_count w ↦
          let past : glyph_count_of c.args.presence.now.1 ≤ c.args.g =
          omega (arith, w.if-g-glyph_count.false, c.glyph_count.ensures) in
          numbered_none there _ c.args.marks.now (none_at there c.args.g
          (none_past c.args.presence.now.0 c.args.presence.now.1 c.args.g past))
    ]
