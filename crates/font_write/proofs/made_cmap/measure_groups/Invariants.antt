use Rattle.std.proofs.Common.{◌≡◌, ◌+◌, ◌-◌, ◌%◌, ◌^◌, flat_map, length, sum}
use Rattle.sfnt_bytes.specs.Sums.{checksum_of}
use Rattle.codes.specs.Runs.{groups_from}
use Rattle.font_theory.specs.File.{groups_of_content, numbers_of}
use Rattle.font_write.specs.Parts.{groups_bytes}
use Rattle.font_write.proofs.made_cmap.measure_groups.Given as goal

-- what is counted and what is left give the whole, and so does what is summed
abbrev pub invariant-loop-run : goal.invariant-loop-run
invariant-loop-run g l = record {
  counted : l.count + length (groups_from (g.S.Source.content_of l.source).map l.from)
      ≡ length (groups_of_content (g.S.Source.content_of l.source));
  summed : (l.sum + sum (flat_map numbers_of (groups_from (g.S.Source.content_of l.source).map l.from))) % 2 ^ 32
      ≡ checksum_of (groups_bytes (groups_of_content (g.S.Source.content_of l.source)));
}

abbrev pub decreases-loop-run : goal.decreases-loop-run
decreases-loop-run g l = 0x110000 - l.from
