use Rattle.std.proofs.Common.{◌≡◌, ℕ, ◌-◌, Bool, find}
use Rattle.std.specs.List.{range_with_len}
use Rattle.sfnt_bytes.specs.Directory.{slot_at}
use Rattle.sfnt_bytes.specs.declared.tag.TheConstants.{ALL_SLOTS}
use Rattle.font_theory.specs.Difference.{is_different_table}
use Rattle.font_join.proofs.difference.different_place.Given as goal

abbrev pub invariant-loop-place : goal.invariant-loop-place
invariant-loop-place g l =
    let p : ℕ → Bool = λ place. is_different_table (g.K.Source.content_of l.k) (g.L.Source.content_of l.l)
    (slot_at place) in
    find p (range_with_len 0 ALL_SLOTS) ≡ find p (range_with_len l.place (ALL_SLOTS - l.place))
