use Rattle.std.proofs.Common.{◌≡◌, [], ap, ◌∙◌, subst, sym}
use Rattle.codes.specs.CharacterMap.{AreCompatible, united}
use Rattle.codes.specs.Runs.{spelled}
use Rattle.map_union.specs.RunLists.{TwoLists, map_in}
use Rattle.map_union.proofs.UnionMapLemmas.{are_recent, recent_map, spells_first}
use Rattle.map_union.proofs.union_map.UnionMap.with_first.Goals as goal

pub invariant_of-result : goal.invariant_of-result
invariant_of-result g c =
    let lists : TwoLists = record { settled = c.self.inside.settled.items; recent = c.self.inside.recent.items } in
    let agree : AreCompatible (map_in lists) (spelled c.args.runs.items) =
    subst (λ (l : TwoLists). AreCompatible (map_in l) (spelled c.args.runs.items)) (sym c.self.view_is)
    c.requires.agree in
    let one : lists.recent ≡ [] = ap (λ (l : TwoLists). l.recent) c.self.view_is ∙ c.requires.one in
    are_recent lists c.args.runs.items c.args.runs.items c.self.invariant agree
    (spells_first lists.recent c.args.runs.items one) c.requires.runs

pub returns : goal.returns
returns g c =
    let lists : TwoLists = record { settled = c.self.inside.settled.items; recent = c.self.inside.recent.items } in
    let agree : AreCompatible (map_in lists) (spelled c.args.runs.items) =
    subst (λ (l : TwoLists). AreCompatible (map_in l) (spelled c.args.runs.items)) (sym c.self.view_is)
    c.requires.agree in
    let one : lists.recent ≡ [] = ap (λ (l : TwoLists). l.recent) c.self.view_is ∙ c.requires.one in
    recent_map lists c.args.runs.items c.args.runs.items c.self.invariant agree
    (spells_first lists.recent c.args.runs.items one)
    ∙ ap (λ (l : TwoLists). united (map_in l) (spelled c.args.runs.items)) c.self.view_is
