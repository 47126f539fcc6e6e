use Rattle.std.proofs.Common.{◌≡◌}
use Rattle.font_tables.specs.Outlines.{falls}
use Rattle.font_tables.specs.declared.loca.LocaForm.TheVariants.{Short}
use Rattle.font_tables.proofs.loca.short_offset_falls.Given as goal

abbrev pub invariant-loop-j : goal.invariant-loop-j
invariant-loop-j l = l.found ≡ falls Short l.loca l.j
