use Rattle.std.proofs.Common.{arith, ℕ, ◌*◌, ◌<◌, ◌∙◌, refl, sym, subst}
use Rattle.std.specs.List.{AllByRecursion}
use Rattle.font_glyph.specs.declared.linked.TheConstants.{NUMBERS}
use Rattle.font_glyph.specs.Closure.{marks_after, work_after}
use Rattle.font_glyph.proofs.FollowLemmas.{below_all, visiting_no, visiting_room, visiting_yes}
use Rattle.sfnt_bytes.specs.Memory.{IsRefusedUpTo}
use Rattle.sfnt_bytes.proofs.MemoryLemmas.{refused_on}
use Rattle.font_glyph.proofs.linked.visit_links.Goals as goal
use Rattle.font_glyph.proofs.linked.visit_links.Goals.{then-not-has+in_ok-put, else-not-has}

pub loop-link-preserved : goal.loop-link-preserved
loop-link-preserved g c = elim c.if-not-has.branch [
  | then-not-has+in_ok-put w ↦ rw (w.marks-is, w.work-is, w.in_ok-put.ensures.put, w.set.ensures.exact)
      (visiting_no NUMBERS c.args.links.now c.loop-link.link-index c.loop-link.marks
      (marks_after c.args.links.now c.args.marks.now) c.loop-link.work.items
      (work_after c.args.links.now c.args.marks.now c.args.work.now.items)
      c.loop-link.invariant (omega arith) (sym c.has.ensures ∙ w.if-not-has.true))
  | else-not-has w ↦ rw (w.marks-is, w.work-is)
      (visiting_yes NUMBERS c.args.links.now c.loop-link.link-index c.loop-link.marks
      (marks_after c.args.links.now c.args.marks.now) c.loop-link.work.items
      (work_after c.args.links.now c.args.marks.now c.args.work.now.items)
      c.loop-link.invariant (omega arith) (sym c.has.ensures ∙ w.if-not-has.false))
]

pub returns-in_err-put-clause-memory : goal.returns-in_err-put-clause-memory
returns-in_err-put-clause-memory g c =
    let refused = c.in_err-put.ensures.memory in
    let room = visiting_room NUMBERS c.args.links.now c.loop-link.link-index c.loop-link.marks
    (marks_after c.args.links.now c.args.marks.now) c.loop-link.work.items
    (work_after c.args.links.now c.args.marks.now c.args.work.now.items) c.loop-link.invariant (omega arith)
    (sym c.has.ensures ∙ c.if-not-has.true) in
    let within : IsRefusedUpTo g.A.Memory.refuses (2 * NUMBERS) =
    (refused.0, refused.1, omega (arith, refused.2, room)) in
    refused_on _ _ within

pub loop-link-init : goal.loop-link-init
loop-link-init g c = record {
  small = subst (λ (n : ℕ). AllByRecursion (λ h. h < n) c.args.links.now) (sym c.requires.count)
      (below_all NUMBERS c.args.links.now (λ i. (c.type_inv.links i).fits));
  marks = refl;
  work = refl;
  room = c.requires.room;
}

pub returns-clause-below : goal.returns-clause-below
returns-clause-below g c = below_all NUMBERS c.args.links.now (λ i. (c.type_inv.links i).fits)
