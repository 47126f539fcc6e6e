use Rattle.std.proofs.Common.{arith, ap, length, sym}
use Rattle.divided_tables.proofs.SequenceClashLemmas.{clash_is, no_clash, no_clash_yet}
use Rattle.divided_tables.proofs.sequence_union.first_twice.Goals as goal

pub returns-in-Some-clash_of-clause-twice : goal.returns-in-Some-clash_of-clause-twice
returns-in-Some-clash_of-clause-twice g c =
    clash_is c.loop-pair.before c.in-Some.pair c.next.new.self c.loop-pair.pair-iterator c.args.pairs
    c.in-Some-clash_of.clash c.in-Some.ensures.steps c.loop-pair.invariant.twice (sym c.in-Some-clash_of.ensures)

pub loop-pair-preserved : goal.loop-pair-preserved
loop-pair-preserved g c = record {
  twice = no_clash_yet c.loop-pair.before c.in-Some.pair c.next.new.self c.loop-pair.pair-iterator c.args.pairs
      c.in-Some.ensures.steps c.loop-pair.invariant.twice (sym c.in_default.ensures);
  count = omega (arith, c.loop-pair.invariant.count, ap length c.in-Some.ensures.steps);
}

pub returns-clause-twice : goal.returns-clause-twice
returns-clause-twice g c =
    no_clash c.loop-pair.before c.loop-pair.pair-iterator c.args.pairs c.in-None.ensures.steps.0
    c.loop-pair.invariant.twice
