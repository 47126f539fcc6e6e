use Rattle.std.proofs.Common.{List, ap, ◌∙◌, subst, sym}
use Rattle.codes.specs.CharacterMap.{united}
use Rattle.codes.specs.Runs.{spelled}
use Rattle.codes.specs.declared.runs.Run.{Run}
use Rattle.map_union.specs.RunLists.{AreTwoLists, map_in}
use Rattle.map_union.proofs.UnionMapLemmas.{are_one_list, one_list}
use Rattle.map_union.proofs.union_map.UnionMap.settle.Goals as goal

pub invariant_of-result : goal.invariant_of-result
invariant_of-result g c =
    subst (λ (recent : List Run). AreTwoLists (record { settled = c.in_ok-settled.settled.items; recent = recent }))
    (sym c.new.ensures.items)
    (are_one_list c.in_ok-settled.settled.items c.in_ok-settled.ensures.runs)

pub returns-clause-same : goal.returns-clause-same
returns-clause-same g c =
    ap (λ (recent : List Run). map_in (record { settled = c.in_ok-settled.settled.items; recent = recent }))
    c.new.ensures.items
    ∙ one_list c.in_ok-settled.settled.items
    ∙ c.in_ok-settled.ensures.spelled
    ∙ (λ i. united (spelled (c.deref.ensures.value i)) (spelled (c.deref-2.ensures.value i)))
    ∙ ap map_in c.self.view_is
