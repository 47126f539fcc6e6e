use Rattle.std.proofs.Common.{◌≡◌, ◌≤◌, ◌<◌, None, ℕ}
use Rattle.font_write.proofs.source.Source.next_kept.Given as goal

abbrev pub invariant-loop-g : goal.invariant-loop-g
invariant-loop-g g l = (h : ℕ) → l.from ≤ h → h < l.g → (g.Self.Source.content_of l.self).outline h ≡ None
