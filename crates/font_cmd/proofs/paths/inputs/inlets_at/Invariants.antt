-- None of the inlets so far was read.
use Rattle.commands.specs.JoinRun.{AreFresh}
use Rattle.font_cmd.proofs.paths.inputs.inlets_at.Given as goal

abbrev pub invariant-loop-path : goal.invariant-loop-path
invariant-loop-path g l = AreFresh l.inlets.items
