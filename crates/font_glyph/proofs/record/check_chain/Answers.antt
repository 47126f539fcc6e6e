use Rattle.std.proofs.Common.{arith, ◌≡◌, length, drop, true, sym, subst, ap, ◌∙◌, length-drop, refl}
use Rattle.font_glyph.specs.Component.{component_size, has_more}
use Rattle.font_glyph.specs.Record.{IsChain}
use Rattle.font_glyph.proofs.ComponentLemmas.{IsChain-last, IsChain-low, IsChain-more, IsChain-rest, IsChain-starts}
use Rattle.font_glyph.proofs.ComponentLemmas.{component_size-least}
use Rattle.font_glyph.proofs.record.check_chain.Goals as goal

pub returns-then-component-glyphs : goal.returns-then-component-glyphs
returns-then-component-glyphs c = (
  λ e. cc,
  λ h. let low = IsChain-low _ _ c.in-Some.component c.in-Some.ensures.first (c.loop-component.invariant.out h) in
      absurd (omega arith),
)

pub returns-then-not-has_more : goal.returns-then-not-has_more
returns-then-not-has_more c = (
  λ e. c.loop-component.invariant.into (IsChain-last _ _ c.in-Some.component c.in-Some.ensures.first
      (sym c.has_more.ensures ∙ c.if-not-has_more.true) (omega arith)),
  λ h. refl,
)

pub loop-component-smaller : goal.loop-component-smaller
loop-component-smaller c =
    let flags = c.in-Some.component.flags in
    let cut : length c.in-Some.others.now ≡ length (drop (component_size flags) c.loop-component.rest.now) =
    ap length c.in-Some.ensures.rest in
    let less = length-drop (component_size flags) c.loop-component.rest.now in
    let least = component_size-least flags in
    let whole = c.in-Some.ensures.first.whole in
    omega arith

pub loop-component-preserved : goal.loop-component-preserved
loop-component-preserved c =
    let more : has_more c.in-Some.component.flags ≡ true = sym c.has_more.ensures ∙ c.if-not-has_more.false in
    record {
      into = λ h. c.loop-component.invariant.into (IsChain-more _ _ c.in-Some.component c.in-Some.ensures.first more
          (omega arith) (subst (IsChain c.args.glyphs) c.in-Some.ensures.rest h));
      out = λ h. subst (IsChain c.args.glyphs) (sym c.in-Some.ensures.rest) (IsChain-rest _ _ c.in-Some.component
          c.in-Some.ensures.first more (c.loop-component.invariant.out h));
    }

pub returns : goal.returns
returns c = (λ e. cc, λ h. absurd (IsChain-starts _ _ (c.loop-component.invariant.out h) c.in_default.ensures.none))
