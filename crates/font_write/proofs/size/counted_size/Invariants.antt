use Rattle.std.proofs.Common.{◌≡◌, ◌+◌, ◌*◌, ◌≤◌, length}
use Rattle.font_theory.specs.File.{writing_of}
use Rattle.font_write.specs.Parts.{bodies_to, count_to}
use Rattle.font_write.proofs.size.counted_size.Given as goal

abbrev pub invariant-loop-place : goal.invariant-loop-place
invariant-loop-place g l = record {
  exact : l.bytes ≡ 12 + 16 * count_to (writing_of l.fn.profile) (g.S.Source.content_of l.source) l.place
      + length (bodies_to (writing_of l.fn.profile) (g.S.Source.content_of l.source) l.place);
  small : l.bytes ≤ 12 + 0x0002_0000_0000_0000 * l.place;
}
