use Rattle.std.proofs.Common.{◌≡◌, true, map, take}
use Rattle.std.specs.List.{list_all}
use Rattle.fontcut_c.specs.Requests.{asked_by, is_like}
use Rattle.fontcut_c.proofs.requests.are_alike.Given as goal

-- the requests so far do
abbrev pub invariant-loop-index : goal.invariant-loop-index
invariant-loop-index l =
    list_all (is_like (asked_by l.first)) (take l.index (map asked_by l.requests)) ≡ true
