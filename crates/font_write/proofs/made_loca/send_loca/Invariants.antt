use Rattle.std.proofs.Common.{◌≤◌, ◌-◌}
use Rattle.font_write.specs.Trace.{SentAll}
use Rattle.font_write.specs.Inside.{IsWalk, loca_to}
use Rattle.font_write.proofs.made_loca.send_loca.Given as goal

abbrev pub invariant-loop-from : goal.invariant-loop-from
invariant-loop-from g l = record {
  sent : SentAll (g.K.Sink.trace l.fn.sink) (g.K.Sink.trace l.sink) (loca_to (g.S.Source.content_of l.source) l.from);
  walk : IsWalk (g.S.Source.content_of l.source) l.from l.walk;
  within : l.from ≤ l.count;
}

abbrev pub decreases-loop-from : goal.decreases-loop-from
decreases-loop-from g l = l.count - l.from
