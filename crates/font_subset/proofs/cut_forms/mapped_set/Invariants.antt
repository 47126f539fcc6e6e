use Rattle.std.proofs.Common.{◌-◌}
use Rattle.codes.specs.Wanted.{member}
use Rattle.font_file.specs.Font.{map_of}
use Rattle.font_subset.specs.Inside.{AreMappedTo}
use Rattle.font_subset.proofs.cut_forms.mapped_set.Given as goal

abbrev pub invariant-loop-run : goal.invariant-loop-run
invariant-loop-run g l = AreMappedTo (map_of l.font) l.from (member l.codes)

abbrev pub decreases-loop-run : goal.decreases-loop-run
decreases-loop-run g l = 0x110000 - l.from
