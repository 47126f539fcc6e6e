use Rattle.std.proofs.Common.{◌≡◌, map, take}
use Rattle.fontcut_c.specs.Inside.{cut_of_set, wished_cut}
use Rattle.fontcut_c.specs.Requests.{asked_by}
use Rattle.fontcut_c.proofs.many_cuts.sets_in.Given as goal

-- there is a set for each request so far
abbrev pub invariant-loop-index : goal.invariant-loop-index
invariant-loop-index l =
    map (cut_of_set l.font) l.sets.items ≡ map (wished_cut l.font) (take l.index (map asked_by l.requests))
