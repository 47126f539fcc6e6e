use Rattle.fontcut_c.specs.Inside.{AreMeasured, files_of}
use Rattle.fontcut_c.proofs.many_cuts.measured_all.Given as goal

-- the files of the sources so far are counted, and none of them is too large
abbrev pub invariant-loop-index : goal.invariant-loop-index
invariant-loop-index g l = AreMeasured (files_of g.S.Source.content_of l.sources) l.index l.total
