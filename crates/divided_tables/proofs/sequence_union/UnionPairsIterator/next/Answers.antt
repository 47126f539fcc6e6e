use Rattle.std.proofs.Common.{arith, ap, length, subst, sym, ◌∙◌}
use Rattle.divided_tables.specs.SequenceIndex.{IsFirstOf}
use Rattle.divided_tables.proofs.SequenceNextLemmas.{next_first, next_none, next_second, order_cut, order_rest}
use Rattle.divided_tables.proofs.sequence_union.UnionPairsIterator.next.Goals as goal

pub returns-in_default-clause-steps : goal.returns-in_default-clause-steps
returns-in_default-clause-steps g c =
    let none =
    sym c.self.view_is
    ∙ next_none (g.C.OfFirst.of_first c.self.inside.choice.now) c.self.inside.first.now c.self.inside.second.now
    c.count_others.result c.count_others-2.result c.count_others.ensures.value c.count_others-2.ensures.value
    c.self.invariant.0 c.self.invariant.1 c.in_default.ensures.cases
    (subst (IsFirstOf _ _) c.if-comes_first.true c.comes_first.ensures) in (none, none)

pub invariant_of-self : goal.invariant_of-self
invariant_of-self g c = (
  order_rest _ _ _ c.in-Some.ensures.cases.0 (order_cut _ _ c.self.invariant.0),
  order_cut _ _ c.self.invariant.1,
)

pub returns-then-comes_first-clause-steps : goal.returns-then-comes_first-clause-steps
returns-then-comes_first-clause-steps g c =
    sym c.self.view_is
    ∙ next_first (g.C.OfFirst.of_first c.self.inside.choice.now) c.self.inside.first.now c.self.inside.second.now
    c.count_others.result c.count_others-2.result c.count_others.ensures.value c.count_others-2.ensures.value
    c.self.invariant.0 c.self.invariant.1 _ _ c.in-Some.ensures.cases.0
    (subst (IsFirstOf _ _) c.if-comes_first.true c.comes_first.ensures)

pub returns-then-comes_first-clause-goes : goal.returns-then-comes_first-clause-goes
returns-then-comes_first-clause-goes g c = record {
  on = λ _. (tt, tt, omega (arith, ap length (returns-then-comes_first-clause-steps g c)));
  keeps = tt;
  rests = λ _. tt;
}

pub invariant_of-self-2 : goal.invariant_of-self-2
invariant_of-self-2 g c = (
  order_cut _ _ c.self.invariant.0,
  order_rest _ _ _ c.in-Some-split_first.ensures.cases.0 (order_cut _ _ c.self.invariant.1),
)

pub returns-clause-steps : goal.returns-clause-steps
returns-clause-steps g c =
    sym c.self.view_is
    ∙ next_second (g.C.OfFirst.of_first c.self.inside.choice.now) c.self.inside.first.now c.self.inside.second.now
    c.count_others.result c.count_others-2.result c.count_others.ensures.value c.count_others-2.ensures.value
    c.self.invariant.0 c.self.invariant.1 _ _ c.in-Some-split_first.ensures.cases.0
    (subst (IsFirstOf _ _) c.if-comes_first.false c.comes_first.ensures)

pub returns-clause-goes : goal.returns-clause-goes
returns-clause-goes g c = record {
  on = λ _. (tt, tt, omega (arith, ap length (returns-clause-steps g c)));
  keeps = tt;
  rests = λ _. tt;
}
