use Rattle.std.proofs.Common.{◌<◌, ◌-◌, nat_lt}
use Rattle.font_theory.specs.Kinds.{font_of}
use Rattle.font_subset.specs.Inside.{AreNumbered}
use Rattle.font_subset.proofs.presence.mark_all.Given as goal

abbrev pub invariant-loop-from : goal.invariant-loop-from
invariant-loop-from g l = record {
  below : l.from < l.count;
  marked : AreNumbered (font_of l.presence.0 l.presence.1).there (λ h. nat_lt h l.from) l.fn.marks l.marks;
}

abbrev pub decreases-loop-from : goal.decreases-loop-from
decreases-loop-from g l = l.count - l.from
