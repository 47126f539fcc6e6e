use Rattle.std.proofs.Common.{refl}
use Rattle.streams.proofs.OutletLemmas.{sent_none}
use Rattle.streams.proofs.outlet.Outlet.new.Goals as goal

pub returns-clause-sent : goal.returns-clause-sent
returns-clause-sent g c told = sent_none (g.W.Write.contents c.args.writer) 0 refl told
