use Rattle.std.proofs.Common.{arith, ◌≡◌, not, sym, ap, ◌∙◌, take}
use Rattle.std.specs.List.{count_by}
use Rattle.std.proofs.lemmas.List.{take_all}
use Rattle.font_glyph.proofs.VisitLemmas.{listed_yes, listed_no, has_within}
use Rattle.font_glyph.proofs.closure.marked.Goals as goal
use Rattle.font_glyph.proofs.closure.marked.Goals.{then-has+in_ok-put, else-has}

pub loop-g-preserved : goal.loop-g-preserved
loop-g-preserved g c = elim c.if-has.branch [
  | then-has+in_ok-put w ↦
      rw (w.work-is, w.in_ok-put.ensures.put) (listed_yes c.args.count c.args.marks.now c.loop-g.g c.loop-g.work.items
      c.loop-g.invariant (sym c.has.ensures ∙ w.if-has.true) (omega arith) (omega arith))
  | else-has w ↦ rw w.work-is (listed_no c.args.count c.args.marks.now c.loop-g.g c.loop-g.work.items c.loop-g.invariant
      (sym c.has.ensures ∙ w.if-has.false) (omega arith))
]

pub returns-clause-all : goal.returns-clause-all
returns-clause-all g c = λ g e. c.loop-g.invariant.all g (omega (arith, has_within c.args.marks.now g e)) e

pub returns-clause-only : goal.returns-clause-only
returns-clause-only g c = c.loop-g.invariant.only

pub returns-clause-length : goal.returns-clause-length
returns-clause-length g c =
    let e : count_by not (take c.loop-g.g c.args.marks.now) ≡ count_by not c.args.marks.now =
    ap (count_by not) (take_all c.loop-g.g c.args.marks.now (omega arith)) in
    omega (arith, e, c.loop-g.invariant.length)
