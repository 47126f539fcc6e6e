use Rattle.std.proofs.Common.{rules, ◌++◌}
use Rattle.std.proofs.Output.{has_written_append}
use Rattle.commands.specs.Show.{dropped_line}
use Rattle.commands.proofs.LineLemmas.{flat_map-moves}
use Rattle.commands.proofs.show.DroppedDisplay.fmt.Goals as goal

pub loop-entry-preserved : goal.loop-entry-preserved
loop-entry-preserved g c = λ plain.
    let before = c.loop-entry.invariant plain in (
      before.0 ++ dropped_line c.in-Some.entry,
      flat_map-moves dropped_line _ before.0 c.in-Some.entry _ _ before.1 c.in-Some.ensures.steps,
      has_written_append _ _ _ _ _ _ before.2 (search rules),
    )
