use Rattle.std.proofs.Common.{arith, Bool, if◌then◌else◌, [], ◌∷◌, length, sym, ap, ◌∙◌}
use Rattle.font_glyph.specs.Record.{chain_in}
use Rattle.font_glyph.proofs.ComponentLemmas.{Chain-starts, HasChain-rest, chain_in-step}
use Rattle.font_glyph.proofs.component.ComponentsIterator.next.Goals as goal

pub returns-in_err-component-clause-steps : goal.returns-in_err-component-clause-steps
returns-in_err-component-clause-steps c =
    absurd (Chain-starts _ (c.self.invariant c.if-not-self.false) c.in_err-component.ensures.none)

pub invariant_of-self : goal.invariant_of-self
invariant_of-self c = λ more. HasChain-rest _ _ _ c.in_ok-component.ensures.first c.in_ok-component.ensures.rest
    (sym c.has_more-self-inside.ensures ∙ more) (c.self.invariant c.if-not-self.false)

pub returns-clause-steps : goal.returns-clause-steps
returns-clause-steps c =
    let left = chain_in c.self.inside.rest.now in
    let next = chain_in c.in_ok-component.rest.now in
    sym c.self.view_is
    ∙ ap (λ (b : Bool). if b then left else []) c.if-not-self.false
    ∙ chain_in-step _ c.in_ok-component.rest.now c.in_ok-component.component c.in_ok-component.ensures.first
    c.in_ok-component.ensures.rest (c.self.invariant c.if-not-self.false)
    ∙ ap (λ (b : Bool). c.in_ok-component.component ∷ (if b then next else [])) (sym c.has_more-self-inside.ensures)

pub returns-clause-goes : goal.returns-clause-goes
returns-clause-goes c = record {
  on = λ _. (tt, tt, omega (arith, ap length (returns-clause-steps c)));
  keeps = tt;
  rests = λ _. tt;
}
