use Rattle.std.proofs.Common.{◌≡◌, ◌<◌, ◌≤◌, ◌-◌, ◌++◌, true}
use Rattle.font_glyph.specs.Marks.{has}
use Rattle.font_subset.specs.KeptGlyphs.{numbers_in}
use Rattle.font_subset.proofs.glyph_lists.list_marks.Given as goal

abbrev pub invariant-loop-next : goal.invariant-loop-next
invariant-loop-next g l = record {
  within : l.next ≤ l.count;
  marked : l.next < l.count → has l.marks l.next ≡ true;
  listed : l.glyphs.items ≡ l.fn.glyphs.items ++ numbers_in (has l.marks) l.next;
}

abbrev pub decreases-loop-next : goal.decreases-loop-next
decreases-loop-next g l = l.count - l.next
