use Rattle.std.proofs.Common.{◌≡◌}
use Rattle.font_tables.specs.Outlines.{falls}
use Rattle.font_tables.specs.declared.loca.LocaForm.TheVariants.{Long}
use Rattle.font_tables.proofs.loca.long_offset_falls.Given as goal

abbrev pub invariant-loop-j : goal.invariant-loop-j
invariant-loop-j l = l.found ≡ falls Long l.loca l.j
