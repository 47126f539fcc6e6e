use Rattle.std.proofs.Common.{arith, ◌<◌, length, refl}
use Rattle.map_union.proofs.RunListLemmas.{run_from_there, run_there}
use Rattle.map_union.proofs.run_list.run_from.Goals as goal

pub returns-then-from-run : goal.returns-then-from-run
returns-then-from-run c =
    let low : c.args.place < length c.args.runs.now =
    omega (arith, c.requires.place.past.within, c.if-place-runs.false) in
    run_there c.args.runs.now c.args.from c.args.place c.requires.runs c.requires.place low c.if-from-run.true

pub returns : goal.returns
returns c =
    let low : c.args.place < length c.args.runs.now =
    omega (arith, c.requires.place.past.within, c.if-place-runs.false) in
    run_from_there c.args.runs.now c.args.from c.args.place c.requires.runs c.requires.place low
    (omega (arith, c.if-from-run.false)) _ refl
