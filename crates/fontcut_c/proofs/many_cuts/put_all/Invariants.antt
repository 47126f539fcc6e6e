use Rattle.fontcut_c.specs.Inside.{ArePut, files_of}
use Rattle.fontcut_c.proofs.many_cuts.put_all.Given as goal

-- the files of the sources so far stand in the room, and their lengths in their places
abbrev pub invariant-loop-index : goal.invariant-loop-index
invariant-loop-index g l = ArePut (files_of g.S.Source.content_of l.sources) l.index l.at l.initial.out l.out l.sizes
