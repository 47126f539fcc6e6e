use Rattle.std.proofs.Common.{arith, ◌≤◌, nat_lt}
use Rattle.font_theory.specs.Kinds.{font_of}
use Rattle.font_subset.specs.Inside.{is_between}
use Rattle.font_subset.proofs.BlankRunLemmas.{below_more}
use Rattle.font_subset.proofs.PresenceLemmas.{all_there, numbered_more, numbered_same}
use Rattle.font_subset.proofs.presence.mark_all.Goals as goal

pub returns : goal.returns
returns g c =
    let there = (font_of c.args.presence.now.0 c.args.presence.now.1).there in
    let count = c.glyph_count-count.result in
    let from = c.loop-from.from in
    let order : from ≤ count = omega (arith, c.loop-from.invariant.below) in
    numbered_same there (λ h. nat_lt h count) _ c.args.marks.now c.mark_between-2.new.marks
    (all_there c.args.presence.now.0 c.args.presence.now.1 count c.glyph_count-count.ensures.count)
    (numbered_more there (λ h. nat_lt h from) (is_between from count) (λ h. nat_lt h count) c.args.marks.now
    c.loop-from.marks c.mark_between-2.new.marks (λ h. below_more from count h order) c.loop-from.invariant.marked
    c.mark_between-2.ensures)
