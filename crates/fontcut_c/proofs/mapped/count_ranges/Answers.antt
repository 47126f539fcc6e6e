use Rattle.std.proofs.Common.{length, arith}
use Rattle.font_map.specs.Mapping.{mapping_of}
use Rattle.commands.specs.Codes.{code_ranges}
use Rattle.fontcut_c.proofs.MappedLemmas.{counted_more}
use Rattle.fontcut_c.proofs.mapped.count_ranges.Goals as goal

pub loop-range-preserved : goal.loop-range-preserved
loop-range-preserved c =
    let chart = c.args.chart.now in
    let before = c.loop-range.invariant in
    let on = c.in-Some.ensures.on in (
      counted_more _ _ _ c.in-Some.ensures.range c.loop-range.count
          (length (code_ranges (mapping_of chart.0 chart.1) 0))
          before.0,
      omega (arith, on.0, before.1),
      omega (arith, on.1),
    )
