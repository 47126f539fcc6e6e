use Rattle.std.proofs.Common.{rules, arith, ap, length, ◌≡◌, ℕ, ◌<◌, ◌∙◌, Bool, List, sym, subst, true}
use Rattle.std.specs.List.{AllByRecursion}
use Rattle.std.proofs.lemmas.List.Elements.{All-weaker, recursion_from_All}
use Rattle.std.proofs.lemmas.List.{length_push, nil_from_length}
use Rattle.font_glyph.specs.declared.component.Component.{Component}
use Rattle.font_glyph.specs.Marks.{has}
use Rattle.font_glyph.proofs.ClosureLemmas.{Closing, closing_init, closing_visit, closing_end, closing_smaller}
use Rattle.font_glyph.proofs.RecordLemmas.{IsRecord-has_list, IsRecord-list}
use Rattle.font_glyph.proofs.closure.close.Goals as goal

pub loop-g-init : goal.loop-g-init
loop-g-init g c =
    let o : ℕ → List ℕ = g.O.Outlines.record_at c.args.outlines.now in
    let n : ℕ = g.O.Outlines.count_of c.args.outlines.now in
    let P : ℕ → Type 0 = λ h. (h < c.count.result) × (has c.args.seeds.now h ≡ true) in
    let k : Closing o n c.args.seeds.now c.args.seeds.now c.in_ok-work.work.items =
    closing_init o n c.args.seeds.now c.in_ok-work.work.items c.requires c.in_ok-work.ensures.all
    (All-weaker P (λ h. h < n) (λ x p. subst (λ (t : ℕ). x < t) c.count.ensures p.0) _ c.in_ok-work.ensures.only)
    (All-weaker P (λ h. has c.args.seeds.now h ≡ true) (λ x p. p.1) _ c.in_ok-work.ensures.only)
    (c.in_ok-work.ensures.length ∙ c.count.ensures) in
    subst (λ (m : List Bool). Closing o n c.args.seeds.now m c.in_ok-work.work.items) (sym c.in_ok-marks.ensures.same) k

pub of-requires : goal.of-requires
of-requires g c = IsRecord-has_list _ _ c.record_of.ensures.law

pub visit-requires-clause-below : goal.visit-requires-clause-below
visit-requires-clause-below g c =
    subst (λ (n : ℕ). AllByRecursion (λ (x : Component). x.glyph < n) c.of.result) (sym c.loop-g.invariant.length)
    (recursion_from_All (λ (x : Component). x.glyph < g.O.Outlines.count_of c.args.outlines.now) c.of.result
    (IsRecord-list _ _ _ c.record_of.ensures.law c.of.ensures.list))

pub visit-requires-clause-room : goal.visit-requires-clause-room
visit-requires-clause-room g c =
    omega (
      arith,
      c.loop-g.invariant.room,
      c.loop-g.invariant.length,
      ap length c.in-Some.ensures.items,
      length_push c.pop.new.self.items c.in-Some.g,
    )

pub loop-g-smaller : goal.loop-g-smaller
loop-g-smaller g c =
    closing_smaller (g.O.Outlines.count_of c.args.outlines.now) c.loop-g.marks c.visit.new.marks c.loop-g.work.items
    c.pop.new.self.items c.visit.new.work.items c.in-Some.g c.of.result
    c.loop-g.invariant.length c.in-Some.ensures.items (IsRecord-list _ _ _ c.record_of.ensures.law c.of.ensures.list)
    c.in_ok-visit.ensures.marks c.in_ok-visit.ensures.work

pub loop-g-preserved : goal.loop-g-preserved
loop-g-preserved g c =
    closing_visit (g.O.Outlines.record_at c.args.outlines.now) (g.O.Outlines.count_of c.args.outlines.now)
    c.args.seeds.now c.loop-g.marks c.visit.new.marks c.loop-g.work.items c.pop.new.self.items
    c.visit.new.work.items
    c.record_of.result.now c.in-Some.g c.of.result c.loop-g.invariant c.in-Some.ensures.items c.record_of.ensures.record
    c.of.ensures.list
    (IsRecord-list _ _ _ c.record_of.ensures.law c.of.ensures.list) c.in_ok-visit.ensures.marks
    c.in_ok-visit.ensures.work

pub returns-clause-reached : goal.returns-clause-reached
returns-clause-reached g c =
    closing_end _ _ _ _ c.loop-g.work.items c.loop-g.invariant (nil_from_length c.loop-g.work.items (search rules))
