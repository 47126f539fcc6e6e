use Rattle.std.proofs.Common.{◌≡◌, ◌-◌, ◌*◌, ◌++◌, take}
use Rattle.font_write.specs.Inside.{IsWalk, loca_to}
use Rattle.font_write.proofs.made_loca.gather_offsets.Given as goal

abbrev pub invariant-loop-g : goal.invariant-loop-g
invariant-loop-g g l = record {
  walk : IsWalk (g.S.Source.content_of l.source) l.g l.walk;
  gathered : loca_to (g.S.Source.content_of l.source) l.from ++ take (4 * (l.g - l.from)) l.block
      ≡ loca_to (g.S.Source.content_of l.source) l.g;
}
