use Rattle.std.proofs.Common.{◌≡◌, ◌-◌, ◌≤◌, find}
use Rattle.std.specs.List.{range_with_len}
use Rattle.font_theory.specs.Content.{CODES, Content}
use Rattle.font_theory.specs.Difference.{is_different_code}
use Rattle.font_join.proofs.difference.different_code.Given as goal

abbrev pub invariant-loop-b : goal.invariant-loop-b
invariant-loop-b g l =
    (l.from ≤ 0x110000) × ((K : Content) → K.map ≡ g.P.Pieces.map_of l.map →
    find (is_different_code K (g.L.Source.content_of l.l)) (range_with_len 0 CODES)
    ≡ find (is_different_code K (g.L.Source.content_of l.l)) (range_with_len l.from (CODES - l.from)))

abbrev pub decreases-loop-b : goal.decreases-loop-b
decreases-loop-b g l = 0x110000 - l.from
