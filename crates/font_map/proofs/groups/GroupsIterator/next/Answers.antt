use Rattle.std.proofs.Common.{rules, sym, ◌∙◌}
use Rattle.font_map.proofs.WantedLemmas.{groups_on}
use Rattle.font_map.proofs.groups.GroupsIterator.next.Goals as goal

pub returns-clause-steps : goal.returns-clause-steps
returns-clause-steps g c = sym c.self.view_is ∙ groups_on _ _ _ _ _ _ _ c.self.invariant c.in-Some.is
    c.run_of-ahead.ensures.run

pub returns-clause-goes : goal.returns-clause-goes
returns-clause-goes g c =
    let left = sym c.self.view_is ∙ groups_on _ _ _ _ _ _ _ c.self.invariant c.in-Some.is c.run_of-ahead.ensures.run in
    search (rules, left)
