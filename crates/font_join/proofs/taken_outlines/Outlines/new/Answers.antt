use Rattle.std.proofs.Common.{rules, ◌≡◌, ◌<◌, None, map, replicate, option_copied, refl, sym, subst, ap, ◌∙◌}
use Rattle.font_join.specs.Union.{HaveLength, listed_outline}
use Rattle.font_join.proofs.OutlineListLemmas.{counted_none, outline_none}
use Rattle.font_join.proofs.taken_outlines.Outlines.new.Goals as goal

pub invariant_of-result : goal.invariant_of-result
invariant_of-result g c =
    let is : c.in_ok-outlines.outlines.items ≡ replicate c.args.count None = c.in_ok-outlines.ensures.values in
    let low : c.args.count < 65536 = search rules in
    subst (λ xs. HaveLength (map (λ x. option_copied x) xs) 0) (sym is) (counted_none (λ x. option_copied x) None refl
    c.args.count low)

pub returns-clause-none : goal.returns-clause-none
returns-clause-none g c =
    let is : c.in_ok-outlines.outlines.items ≡ replicate c.args.count None = c.in_ok-outlines.ensures.values in
    λ h. ap (λ xs. listed_outline (map (λ x. option_copied x) xs) h) is
    ∙ outline_none (λ x. option_copied x) None refl c.args.count h
