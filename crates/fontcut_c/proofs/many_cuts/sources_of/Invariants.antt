use Rattle.std.proofs.Common.{◌≡◌, map, take}
use Rattle.fontcut_c.proofs.CutListLemmas.{made_of}
use Rattle.fontcut_c.proofs.many_cuts.sources_of.Given as goal

-- there is a source for each set so far
abbrev pub invariant-loop-set : goal.invariant-loop-set
invariant-loop-set l = l.sources.items ≡ map (made_of l.font) (take l.set-index l.sets)
