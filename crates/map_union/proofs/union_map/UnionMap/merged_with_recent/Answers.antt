use Rattle.std.proofs.Common.{◌≡◌, List, ap, ◌∙◌, subst, sym}
use Rattle.codes.specs.CharacterMap.{AreCompatible, united}
use Rattle.codes.specs.Runs.{spelled}
use Rattle.codes.specs.declared.runs.Run.{Run}
use Rattle.map_union.specs.RunLists.{TwoLists, map_in}
use Rattle.map_union.proofs.UnionMapLemmas.{are_recent, recent_map}
use Rattle.map_union.proofs.union_map.UnionMap.merged_with_recent.Goals as goal

pub invariant_of-result : goal.invariant_of-result
invariant_of-result g c =
    let lists : TwoLists = record { settled = c.self.inside.settled.items; recent = c.self.inside.recent.items } in
    let agree : AreCompatible (map_in lists) (spelled c.args.runs.now) =
    subst (λ (l : TwoLists). AreCompatible (map_in l) (spelled c.args.runs.now)) (sym c.self.view_is)
    c.requires.agree in
    let spells : spelled c.in_ok-recent.recent.items ≡ united (spelled lists.recent) (spelled c.args.runs.now) =
    c.in_ok-recent.ensures.spelled ∙ ap (λ (rs : List Run). united (spelled rs) (spelled c.args.runs.now))
    c.deref.ensures.value in
    are_recent lists c.args.runs.now c.in_ok-recent.recent.items c.self.invariant agree spells
    c.in_ok-recent.ensures.runs

pub returns-clause-map : goal.returns-clause-map
returns-clause-map g c =
    let lists : TwoLists = record { settled = c.self.inside.settled.items; recent = c.self.inside.recent.items } in
    let agree : AreCompatible (map_in lists) (spelled c.args.runs.now) =
    subst (λ (l : TwoLists). AreCompatible (map_in l) (spelled c.args.runs.now)) (sym c.self.view_is)
    c.requires.agree in
    let spells : spelled c.in_ok-recent.recent.items ≡ united (spelled lists.recent) (spelled c.args.runs.now) =
    c.in_ok-recent.ensures.spelled ∙ ap (λ (rs : List Run). united (spelled rs) (spelled c.args.runs.now))
    c.deref.ensures.value in
    recent_map lists c.args.runs.now c.in_ok-recent.recent.items c.self.invariant agree spells
    ∙ ap (λ (l : TwoLists). united (map_in l) (spelled c.args.runs.now)) c.self.view_is
