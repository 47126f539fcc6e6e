use Rattle.std.proofs.Common.{◌≡◌, ◌+◌, ◌*◌, ◌≤◌, ◌++◌, take}
use Rattle.codes.specs.Runs.{groups_from}
use Rattle.font_write.specs.Parts.{groups_bytes}
use Rattle.font_write.proofs.made_cmap.gather_groups.Given as goal

abbrev pub invariant-loop-i : goal.invariant-loop-i
invariant-loop-i g l = record {
  small : l.at ≤ 0x110000;
  on : l.from + l.i ≤ l.at;
  gathered : take (12 * l.i) l.block ++ groups_bytes (groups_from (g.S.Source.content_of l.source).map l.at)
      ≡ groups_bytes (groups_from (g.S.Source.content_of l.source).map l.from);
}
