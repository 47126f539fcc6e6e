use Rattle.std.proofs.Common.{◌≡◌, ◌&&◌, ◌<◌, ◌≤◌, ℕ, length, not}
use Rattle.font_glyph.specs.Marks.{has}
use Rattle.font_glyph.proofs.marks.clear.Given as goal

abbrev pub invariant-loop-g : goal.invariant-loop-g
invariant-loop-g l = record {
  count : length l.marks ≡ length l.fn.marks;
  left : (h : ℕ) → h < l.g → has l.marks h ≡ (has l.fn.marks h && not (has l.others h));
  rest : (h : ℕ) → l.g ≤ h → has l.marks h ≡ has l.fn.marks h;
}
