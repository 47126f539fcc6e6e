use Rattle.std.proofs.Common.{◌≡◌, ◌+◌, ◌<◌, ℕ, List, Option, Some, None, length, option_copied, slice_set, sym, ap}
use Rattle.std.proofs.Common.{subst, ◌∙◌, arith}
use Rattle.font_join.specs.Union.{HaveLength, listed_outline}
use Rattle.font_join.proofs.OutlineListLemmas.{bytes_few, counted_set, map_set}
use Rattle.font_join.proofs.taken_outlines.Outlines.set.Goals as goal

pub overflow_add-self : goal.overflow_add-self
overflow_add-self g c =
    omega (arith, bytes_few _ c.self.inside.bytes (length c.args.outline.now) c.self.invariant c.requires.small)

pub invariant_of-self : goal.invariant_of-self
invariant_of-self g c =
    let low = subst (λ (l : List (Option (List ℕ))). c.args.g < length l) (sym c.self.view_is) c.requires.within in
    let none = subst (λ (l : List (Option (List ℕ))). listed_outline l c.args.g ≡ None) (sym c.self.view_is)
    c.requires.none in
    subst (λ (l : List (Option (List ℕ))). HaveLength l (c.self.inside.bytes + length c.args.outline.now))
    (sym (map_set (λ x. option_copied x) c.self.inside.outlines.items c.args.g (Some c.args.outline)))
    (counted_set _ c.self.inside.bytes c.args.g c.args.outline.now c.self.invariant low none c.requires.small)

pub returns : goal.returns
returns g c =
    map_set (λ x. option_copied x) c.self.inside.outlines.items c.args.g (Some c.args.outline)
    ∙ ap (λ (l : List (Option (List ℕ))). slice_set l c.args.g (Some c.args.outline.now)) c.self.view_is
