use Rattle.std.proofs.Common.{rules, ◌++◌}
use Rattle.std.proofs.Output.{has_written_append}
use Rattle.commands.specs.Codes.{range_line}
use Rattle.commands.proofs.LineLemmas.{flat_map-moves}
use Rattle.commands.proofs.mapped_codes.CodesDisplay.fmt.Goals as goal

pub loop-range-preserved : goal.loop-range-preserved
loop-range-preserved g c = λ plain.
    let before = c.loop-range.invariant plain in
    let range = c.in-Some.range in (
      before.0 ++ range_line range,
      flat_map-moves range_line _ before.0 range _ _ before.1 c.in-Some.ensures.range,
      has_written_append _ _ _ _ _ _ before.2 (search rules),
    )
