use Rattle.std.proofs.Common.{rules, ◌++◌}
use Rattle.std.proofs.Output.{has_written_append, has_written_of_eq}
use Rattle.font_subset.proofs.FontLemmas.{range_with_len-step}
use Rattle.sfnt_bytes.specs.declared.tag.TheConstants.{SLOTS}
use Rattle.commands.specs.Show.{kept_line}
use Rattle.commands.proofs.LineLemmas.{flat_map-moves}
use Rattle.commands.proofs.show.KeptDisplay.fmt.Goals as goal

pub loop-slot-preserved : goal.loop-slot-preserved
loop-slot-preserved g c = λ plain.
    let before = c.loop-slot.invariant plain in
    let slot = c.loop-slot.slot in
    let text = kept_line c.args.self.now.0.now in (
      before.0 ++ text slot,
      flat_map-moves text _ before.0 slot _ _ before.1 (range_with_len-step slot SLOTS c.loop-slot-test.true),
      has_written_append _ _ _ _ _ _ before.2 (has_written_of_eq _ _ _ _ _ c.of-line.ensures (search rules)),
    )
