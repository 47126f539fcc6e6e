use Rattle.std.proofs.Common.{◌≡◌, ◌<◌, ◌∙◌, ◌++◌, ◌∷◌, [], ℕ, Bool, List, ap, arith, cond, false, length, not, set}
use Rattle.std.proofs.Common.{subst, sym, true}
use Rattle.std.specs.List.{AllByRecursion, count_by}
use Rattle.std.proofs.lemmas.List.{length_push}
use Rattle.font_glyph.specs.Closure.{marks_after, work_after}
use Rattle.font_glyph.specs.Marks.{has}
use Rattle.font_glyph.specs.Record.{glyphs_of}
use Rattle.font_glyph.specs.declared.component.Component.{Component}
use Rattle.font_glyph.proofs.VisitLemmas.{unmarked_less}
use Rattle.font_glyph.proofs.closure.visit.Goals as goal

pub loop-component-preserved-in-Continue-1 : goal.loop-component-preserved-in-Continue-1
loop-component-preserved-in-Continue-1 g c =
    let x : ℕ = c.in-Some.component.glyph in
    let rest : List ℕ = glyphs_of c.next.new.self in
    let m : List Bool = c.loop-component.marks in
    let w : List ℕ = c.loop-component.work.items in
    let left : c.loop-component.component-iterator ≡ c.in-Some.component ∷ c.next.new.self = c.in-Some.ensures.steps in
    let low : AllByRecursion (λ (k : Component). k.glyph < length m) (c.in-Some.component ∷ c.next.new.self) =
    subst (λ (l : List Component). AllByRecursion (λ k. k.glyph < length m) l) left c.loop-component.invariant.small in
    let none : has m x ≡ false = sym c.has.ensures ∙ c.if-not-has.true in
    let less = unmarked_less m x none low.0 in
    record {
      small = subst (λ (n : ℕ). AllByRecursion (λ (k : Component). k.glyph < n) c.next.new.self)
          (sym c.set.ensures.count) low.1;
      marks = ap (marks_after rest) c.set.ensures.exact
          ∙ sym (ap (λ (l : List Component). marks_after (glyphs_of l) m) left) ∙ c.loop-component.invariant.marks;
      work = (λ i. work_after rest (c.set.ensures.exact i) (c.in_ok-put.ensures.put i))
          ∙ sym (ap (λ b. cond b (work_after rest m w) (work_after rest (set m x true) (w ++ x ∷ []))) none)
          ∙ sym (ap (λ (l : List Component). work_after (glyphs_of l) m w) left) ∙ c.loop-component.invariant.work;
      count = c.set.ensures.count ∙ c.loop-component.invariant.count;
      room = omega (
        arith,
        c.loop-component.invariant.room,
        less,
        ap (count_by not) c.set.ensures.exact,
        ap length c.in_ok-put.ensures.put,
        length_push w x,
      );
    }
