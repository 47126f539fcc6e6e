use Rattle.std.proofs.Common.{◌+◌, ◌≤◌, length, arith, subst}
use Rattle.codes.specs.Runs.{groups_from}
use Rattle.map_union.specs.RunLists.{TwoLists, map_in}
use Rattle.map_union.proofs.RunListLemmas.{runs_few}
use Rattle.map_union.proofs.UnionMapLemmas.{most_groups}
use Rattle.map_union.proofs.union_map.UnionMap.most_groups.Goals as goal

pub overflow_cast-result : goal.overflow_cast-result
overflow_cast-result g c = let few = runs_few c.self.inside.settled.items c.self.invariant.settled in
    omega (arith, few, c.len.ensures)

pub overflow_cast-result-2 : goal.overflow_cast-result-2
overflow_cast-result-2 g c = let few = runs_few c.self.inside.recent.items c.self.invariant.recent in
    omega (arith, few, c.len-2.ensures)

pub overflow_add-result : goal.overflow_add-result
overflow_add-result g c =
    let few = runs_few c.self.inside.settled.items c.self.invariant.settled in
    let also = runs_few c.self.inside.recent.items c.self.invariant.recent in
    omega (arith, few, also, c.len.ensures, c.len-2.ensures)

pub returns-clause-most : goal.returns-clause-most
returns-clause-most g c =
    subst (λ (lists : TwoLists). length (groups_from (map_in lists) 0) ≤ c.len.result + c.len-2.result) c.self.view_is
    (let most = most_groups (record { settled = c.self.inside.settled.items; recent = c.self.inside.recent.items })
    c.self.invariant in
    omega (arith, most, c.len.ensures, c.len-2.ensures, c.self.inside.settled.ok.0, c.self.inside.recent.ok.0))

pub returns-clause-small : goal.returns-clause-small
returns-clause-small g c =
    let few = runs_few c.self.inside.settled.items c.self.invariant.settled in
    let also = runs_few c.self.inside.recent.items c.self.invariant.recent in
    omega (arith, few, also, c.len.ensures, c.len-2.ensures, c.self.inside.settled.ok.0, c.self.inside.recent.ok.0)
