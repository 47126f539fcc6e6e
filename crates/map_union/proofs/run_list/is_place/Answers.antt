use Rattle.std.proofs.Common.{arith}
use Rattle.map_union.proofs.RunListLemmas.{place_behind}
use Rattle.map_union.proofs.run_list.is_place.Goals as goal

pub returns : goal.returns
returns c = λ is.
    place_behind c.args.runs.now c.args.from c.args.place c.requires (omega (arith, c.if-place-eq0.false))
    (omega (arith, c.if-runs-place.false))
    (omega (arith, c.if-from-runs.false)) (omega (arith, c.if-runs-place-2.false))
