use Rattle.std.proofs.Common.{◌≡◌, length}
use Rattle.font_layout.specs.Layout.{links_among}
use Rattle.font_layout.proofs.link_steps.LinkStepsIterator.next.Given as goal

abbrev pub invariant-loop-step : goal.invariant-loop-step
invariant-loop-step l = links_among l.self-inside.steps ≡ links_among l.initial.self-inside.steps

abbrev pub decreases-loop-step : goal.decreases-loop-step
decreases-loop-step l = length l.self-inside.steps
