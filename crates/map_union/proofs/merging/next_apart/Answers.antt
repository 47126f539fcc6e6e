use Rattle.std.proofs.Common.{◌+◌, ◌-◌, subst, arith}
use Rattle.codes.specs.CharacterMap.{united}
use Rattle.codes.specs.Runs.{spelled}
use Rattle.map_union.specs.Inside.{IsPast, run_at}
use Rattle.map_union.proofs.RunListLemmas.{both_map, first_alone, past_on, run_sound, second_alone}
use Rattle.map_union.proofs.StretchLemmas.{is_behind, stretch_done}
use Rattle.map_union.proofs.merging.next_apart.Goals as goal

pub leaves_alone-requires-clause-order : goal.leaves_alone-requires-clause-order
leaves_alone-requires-clause-order c =
    (run_sound c.args.a.now c.args.at.code c.args.at.places.first c.requires.first c.requires.past.first
    c.if-i-a.true).0

pub leaves_alone-requires-clause-some : goal.leaves_alone-requires-clause-some
leaves_alone-requires-clause-some c =
    (run_sound c.args.a.now c.args.at.code c.args.at.places.first c.requires.first c.requires.past.first
    c.if-i-a.true).1

pub leaves_alone-requires-clause-small : goal.leaves_alone-requires-clause-small
leaves_alone-requires-clause-small c =
    (run_sound c.args.a.now c.args.at.code c.args.at.places.first c.requires.first c.requires.past.first
    c.if-i-a.true).2

pub overflow_add-code : goal.overflow_add-code
overflow_add-code c = let behind = is_behind c.args.a.now c.requires.first c.args.at.code c.args.at.places.first
    c.requires.past.first c.if-at-a.true c.end_of_stretch-end.result c.end_of_stretch-end.ensures.order
    c.end_of_stretch-end.ensures.within in omega (arith, behind.small)

pub returns-then-leaves_alone-clause-done : goal.returns-then-leaves_alone-clause-done
returns-then-leaves_alone-clause-done c = λ runs done.
    stretch_done c.args.a.now c.requires.first c.args.at.code c.args.at.places.first c.requires.past.first
    c.if-at-a.true (united (spelled c.args.a.now) (spelled c.args.b.now)) (spelled c.args.b.now)
    (both_map c.args.a.now c.args.b.now c.requires.first c.requires.second)
    (first_alone (spelled c.args.a.now) (spelled c.args.b.now)) c.end_of_stretch-end.result
    (c.leaves_alone.ensures c.args.at.code c.requires.past.second c.if-at-a.true c.if-leaves_alone.true)
    (c.end_of_stretch-end.ensures.alone c.args.at.code c.requires.past.second c.if-at-a.true) runs done
    c.end_of_stretch-end.ensures.order c.end_of_stretch-end.ensures.within

pub returns-then-leaves_alone-clause-past : goal.returns-then-leaves_alone-clause-past
returns-then-leaves_alone-clause-past c =
    let behind = is_behind c.args.a.now c.requires.first c.args.at.code c.args.at.places.first c.requires.past.first
    c.if-at-a.true c.end_of_stretch-end.result c.end_of_stretch-end.ensures.order
    c.end_of_stretch-end.ensures.within in
    record {
      first = subst (IsPast c.args.a.now ((run_at c.args.a.now (c.end_of_stretch-end.result - 1)).last + 1))
          (omega (arith, c.end_of_stretch-end.ensures.order)) behind.past;
      second = past_on c.args.b.now c.args.at.code ((run_at c.args.a.now (c.end_of_stretch-end.result - 1)).last + 1)
          c.args.at.places.second (omega (arith, behind.on)) c.requires.past.second;
    }

pub returns-then-leaves_alone-clause-order : goal.returns-then-leaves_alone-clause-order
returns-then-leaves_alone-clause-order c = let behind =
    is_behind c.args.a.now c.requires.first c.args.at.code c.args.at.places.first c.requires.past.first c.if-at-a.true
    c.end_of_stretch-end.result c.end_of_stretch-end.ensures.order c.end_of_stretch-end.ensures.within in
    (behind.on, behind.small)

pub leaves_alone-requires-then-at-b-clause-order : goal.leaves_alone-requires-then-at-b-clause-order
leaves_alone-requires-then-at-b-clause-order c =
    (run_sound c.args.b.now c.args.at.code c.args.at.places.second c.requires.second c.requires.past.second
    c.if-j-b.true).0

pub leaves_alone-requires-then-at-b-clause-some : goal.leaves_alone-requires-then-at-b-clause-some
leaves_alone-requires-then-at-b-clause-some c =
    (run_sound c.args.b.now c.args.at.code c.args.at.places.second c.requires.second c.requires.past.second
    c.if-j-b.true).1

pub leaves_alone-requires-then-at-b-clause-small : goal.leaves_alone-requires-then-at-b-clause-small
leaves_alone-requires-then-at-b-clause-small c =
    (run_sound c.args.b.now c.args.at.code c.args.at.places.second c.requires.second c.requires.past.second
    c.if-j-b.true).2

pub overflow_add-code-then-leaves_alone-2 : goal.overflow_add-code-then-leaves_alone-2
overflow_add-code-then-leaves_alone-2 c = let behind =
    is_behind c.args.b.now c.requires.second c.args.at.code c.args.at.places.second c.requires.past.second
    c.if-at-b.true c.end_of_stretch-end-then-leaves_alone-2.result
    c.end_of_stretch-end-then-leaves_alone-2.ensures.order c.end_of_stretch-end-then-leaves_alone-2.ensures.within in
    omega (arith, behind.small)

pub returns-then-leaves_alone-2-clause-done : goal.returns-then-leaves_alone-2-clause-done
returns-then-leaves_alone-2-clause-done c = λ runs done.
    stretch_done c.args.b.now c.requires.second c.args.at.code c.args.at.places.second c.requires.past.second
    c.if-at-b.true (united (spelled c.args.a.now) (spelled c.args.b.now)) (spelled c.args.a.now)
    (both_map c.args.a.now c.args.b.now c.requires.first c.requires.second) (second_alone (spelled c.args.a.now)
    (spelled c.args.b.now)) c.end_of_stretch-end-then-leaves_alone-2.result
    (c.leaves_alone-then-at-b.ensures c.args.at.code c.requires.past.first c.if-at-b.true c.if-leaves_alone-2.true)
    (c.end_of_stretch-end-then-leaves_alone-2.ensures.alone c.args.at.code c.requires.past.first c.if-at-b.true)
    runs done c.end_of_stretch-end-then-leaves_alone-2.ensures.order
    c.end_of_stretch-end-then-leaves_alone-2.ensures.within

pub returns-then-leaves_alone-2-clause-past : goal.returns-then-leaves_alone-2-clause-past
returns-then-leaves_alone-2-clause-past c =
    let behind = is_behind c.args.b.now c.requires.second c.args.at.code c.args.at.places.second c.requires.past.second
    c.if-at-b.true c.end_of_stretch-end-then-leaves_alone-2.result
    c.end_of_stretch-end-then-leaves_alone-2.ensures.order
    c.end_of_stretch-end-then-leaves_alone-2.ensures.within in
    record {
      first = past_on c.args.a.now c.args.at.code
          ((run_at c.args.b.now (c.end_of_stretch-end-then-leaves_alone-2.result - 1)).last + 1) c.args.at.places.first
          (omega (arith, behind.on)) c.requires.past.first;
      second = subst (IsPast c.args.b.now
          ((run_at c.args.b.now (c.end_of_stretch-end-then-leaves_alone-2.result - 1)).last + 1))
          (omega (arith, c.end_of_stretch-end-then-leaves_alone-2.ensures.order)) behind.past;
    }

pub returns-then-leaves_alone-2-clause-order : goal.returns-then-leaves_alone-2-clause-order
returns-then-leaves_alone-2-clause-order c = let behind =
    is_behind c.args.b.now c.requires.second c.args.at.code c.args.at.places.second c.requires.past.second
    c.if-at-b.true c.end_of_stretch-end-then-leaves_alone-2.result
    c.end_of_stretch-end-then-leaves_alone-2.ensures.order c.end_of_stretch-end-then-leaves_alone-2.ensures.within in
    (behind.on, behind.small)
