use Rattle.std.proofs.Common.{◌-◌, arith}
use Rattle.map_union.specs.Inside.{run_at}
use Rattle.map_union.proofs.RunListLemmas.{past_middle, place_above}
use Rattle.map_union.proofs.StretchLemmas.{alone_at_end, alone_but_last, alone_with_last, each_sound, starts_ascend}
use Rattle.map_union.proofs.merging.end_of_stretch.Goals.{then-end-i-via-then-end-i}
use Rattle.map_union.proofs.merging.end_of_stretch.Goals.{then-end-i-via-else-end-i+then-leaves_alone}
use Rattle.map_union.proofs.merging.end_of_stretch.Goals as goal

pub returns-then-j-b-clause-alone : goal.returns-then-j-b-clause-alone
returns-then-j-b-clause-alone c = λ from past on.
    alone_at_end c.args.a.now c.args.b.now from c.args.i c.args.j c.requires.first c.requires.second past c.if-j-b.true
    (omega (arith, on, (each_sound c.args.a.now c.requires.first c.args.i c.requires.there).0))

pub place_by_guess-end-requires-clause-past : goal.place_by_guess-end-requires-clause-past
place_by_guess-end-requires-clause-past c =
    past_middle c.args.a.now (run_at c.args.b.now c.args.j).first c.args.i c.requires.first c.requires.there
    (omega (arith, c.if-next-a.false))

pub overflow_sub-end : goal.overflow_sub-end
overflow_sub-end c =
    let up = place_above c.args.a.now (run_at c.args.b.now c.args.j).first c.args.i c.place_by_guess-end.result
    c.requires.first c.requires.there (omega (arith, c.if-next-a.false)) c.place_by_guess-end.ensures in
    omega (arith, up)

pub leaves_alone-requires-clause-small : goal.leaves_alone-requires-clause-small
leaves_alone-requires-clause-small c =
    let up = place_above c.args.a.now (run_at c.args.b.now c.args.j).first c.args.i c.place_by_guess-end.result
    c.requires.first c.requires.there (omega (arith, c.if-next-a.false)) c.place_by_guess-end.ensures in
    (each_sound c.args.a.now c.requires.first (c.place_by_guess-end.result - 1)
    (omega (arith, up, c.place_by_guess-end.ensures.past.within))).2

pub returns-then-end-i-clause-order : goal.returns-then-end-i-clause-order
returns-then-end-i-clause-order c =
    place_above c.args.a.now (run_at c.args.b.now c.args.j).first c.args.i c.place_by_guess-end.result c.requires.first
    c.requires.there (omega (arith, c.if-next-a.false)) c.place_by_guess-end.ensures

pub returns-then-end-i-clause-alone : goal.returns-then-end-i-clause-alone
returns-then-end-i-clause-alone c = λ from past on.
    let up = place_above c.args.a.now (run_at c.args.b.now c.args.j).first c.args.i c.place_by_guess-end.result
    c.requires.first c.requires.there (omega (arith, c.if-next-a.false)) c.place_by_guess-end.ensures in
    elim c.then-end-i.branch [
      | then-end-i-via-then-end-i w ↦ λ k more lt. absurd (omega (arith, w.if-end-i.true, more, lt))
      | then-end-i-via-else-end-i+then-leaves_alone w ↦
          let last = c.place_by_guess-end.result - 1 in
          let begins = starts_ascend c.args.a.now c.requires.first c.args.i last (omega (arith, up))
          (omega (arith, up, c.place_by_guess-end.ensures.past.within)) in
          alone_with_last c.args.a.now c.args.b.now from c.args.i c.args.j c.place_by_guess-end.result c.requires.first
          c.requires.second past (omega (arith, c.if-j-b.false))
          (omega (arith, on, (each_sound c.args.a.now c.requires.first c.args.i c.requires.there).0))
          c.place_by_guess-end.ensures.past
          (w.leaves_alone.ensures from past (omega (arith, on, begins)) w.if-leaves_alone.true)
    ]

pub overflow_sub-result : goal.overflow_sub-result
overflow_sub-result c =
    let up = place_above c.args.a.now (run_at c.args.b.now c.args.j).first c.args.i c.place_by_guess-end.result
    c.requires.first c.requires.there (omega (arith, c.if-next-a.false)) c.place_by_guess-end.ensures in
    omega (arith, up)

pub returns-clause-order : goal.returns-clause-order
returns-clause-order c =
    let up = place_above c.args.a.now (run_at c.args.b.now c.args.j).first c.args.i c.place_by_guess-end.result
    c.requires.first c.requires.there (omega (arith, c.if-next-a.false)) c.place_by_guess-end.ensures in
    omega (arith, up, c.if-end-i.false)

pub returns-clause-alone : goal.returns-clause-alone
returns-clause-alone c = λ from past on.
    alone_but_last c.args.a.now c.args.b.now from c.args.i c.args.j c.place_by_guess-end.result c.requires.first
    c.requires.second past (omega (arith, c.if-j-b.false))
    (omega (arith, on, (each_sound c.args.a.now c.requires.first c.args.i c.requires.there).0))
    c.place_by_guess-end.ensures.past
