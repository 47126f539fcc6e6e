use Rattle.std.proofs.Common.{◌+◌, flat_map, length, sum, List, ap, arith}
use Rattle.codes.specs.declared.runs.Run.{Run}
use Rattle.codes.proofs.RunLemmas.{groups_done, groups_few, groups_next}
use Rattle.codes.specs.Runs.{groups_from}
use Rattle.font_theory.specs.Content.{Content}
use Rattle.font_theory.specs.File.{groups_of_content, numbers_of}
use Rattle.font_write.proofs.ChecksumLemmas.{checksum_of-groups_bytes, sum-numbers_of}
use Rattle.font_write.proofs.GroupLemmas.{groups_of-is}
use Rattle.font_write.proofs.made_cmap.measure_groups.Goals as goal

pub loop-run-init : goal.loop-run-init
loop-run-init g c =
    let K : Content = g.S.Source.content_of c.args.source.now in
    let all = ap (λ (runs : List Run). sum (flat_map numbers_of runs)) (groups_of-is K) in
    record {
      counted = omega (arith, ap length (groups_of-is K));
      summed = omega (arith, all, checksum_of-groups_bytes (groups_of_content K));
    }

pub overflow_add-count : goal.overflow_add-count
overflow_add-count g c =
    let K : Content = g.S.Source.content_of c.args.source.now in
    omega (arith, ap length (groups_of-is K), groups_few K.map 0, c.loop-run.invariant.counted)

pub loop-run-preserved : goal.loop-run-preserved
loop-run-preserved g c =
    let K : Content = g.S.Source.content_of c.args.source.now in
    let run : Run = c.in-Some.run' in
    let next = groups_next K.map c.loop-run.from run c.recall_map.ensures c.in-Some.ensures in
    let sums = ap (λ (runs : List Run). sum (flat_map numbers_of runs)) next in
    record {
      counted = omega (arith, ap length next, c.loop-run.invariant.counted);
      summed = omega (arith, sums, sum-numbers_of run (groups_from K.map (run.last + 1)), c.loop-run.invariant.summed);
    }

pub returns-clause-count : goal.returns-clause-count
returns-clause-count g c =
    let K : Content = g.S.Source.content_of c.args.source.now in
    let done = ap length (groups_done K.map c.loop-run.from c.recall_map.ensures c.in_default.ensures) in
    omega (arith, done, c.loop-run.invariant.counted)

pub returns-clause-sum : goal.returns-clause-sum
returns-clause-sum g c =
    let K : Content = g.S.Source.content_of c.args.source.now in
    let done = ap (λ (runs : List Run). sum (flat_map numbers_of runs))
    (groups_done K.map c.loop-run.from c.recall_map.ensures c.in_default.ensures) in
    omega (arith, done, c.loop-run.invariant.summed)
