use Rattle.std.proofs.Common.{◌≡◌, ◌≤◌, ◌<◌, ◌+◌, ◌⊎◌, ◌∙◌, false, inl, inr, sym, arith}
use Rattle.std.proofs.lemmas.Bool.{cases_lt}
use Rattle.font_glyph.specs.RecordMap.{Records}
use Rattle.font_theory.specs.Content.{content, everything, glyph_count}
use Rattle.font_theory.specs.Kinds.{font_of, tables_of}
use Rattle.font_join.specs.Union.{is_other, listed_outline}
use Rattle.font_join.proofs.FirstLemmas.{fails_next, fails_skip, first_of}
use Rattle.font_join.proofs.OutlineListLemmas.{other_absent, other_end, other_now, taken_end, taken_more, taken_none}
use Rattle.font_join.proofs.OutlineListLemmas.{taken_skip, whole_past}
use Rattle.font_join.proofs.taken_outlines.Outlines.take.Goals as goal

pub loop-g-init : goal.loop-g-init
loop-g-init g c =
    let L : Records = (content (font_of c.args.file.now.0 c.args.file.now.1) everything).outline in
    let next = c.next_kept-g.ensures in (
      taken_skip c.args.self.now c.args.self.now L 0 c.next_kept-g.result (omega arith) next.passed
          (taken_none c.args.self.now L),
      next.within,
      λ h low. other_absent (listed_outline c.args.self.now) L h
          (next.passed h (omega arith) low),
    )

pub loop-g-preserved : goal.loop-g-preserved
loop-g-preserved g c =
    let L : Records = (content (font_of c.args.file.now.0 c.args.file.now.1) everything).outline in
    let K : Records = listed_outline c.args.self.now in
    let next = c.next_kept-g-in-loop-g.ensures in
    let are = c.loop-g.invariant.0 in
    let same : is_other K L c.loop-g.g ≡ false =
    sym (other_now c.args.self.now c.loop-g.self L c.loop-g.g c.take_one.result are c.take_one.ensures.differs)
    ∙ c.if-take_one.false in
    let taken = taken_more c.args.self.now c.loop-g.self c.take_one.new.self L c.loop-g.g are c.take_one.ensures.count
    c.take_one.ensures.taken c.take_one.ensures.others in (
      taken_skip c.args.self.now c.take_one.new.self L (c.loop-g.g + 1) c.next_kept-g-in-loop-g.result next.from_on
          next.passed taken,
      next.within,
      fails_skip (is_other K L) (c.loop-g.g + 1) c.next_kept-g-in-loop-g.result (fails_next (is_other K L) c.loop-g.g
          c.loop-g.invariant.2 same) (λ h a b. other_absent K L h (next.passed h a b)),
    )

pub returns-then-take_one-clause-differs : goal.returns-then-take_one-clause-differs
returns-then-take_one-clause-differs g c =
    let L : Records = (content (font_of c.args.file.now.0 c.args.file.now.1) everything).outline in
    let K : Records = listed_outline c.args.self.now in
    let low : c.loop-g.g < c.args.count = omega (arith, c.loop-g-test.true, c.min-end.ensures) in
    let other = sym (other_now c.args.self.now c.loop-g.self L c.loop-g.g c.take_one.result c.loop-g.invariant.0
    c.take_one.ensures.differs) ∙ c.if-take_one.true in
    sym (first_of (is_other K L) c.loop-g.g c.args.count low c.loop-g.invariant.2 other)

pub returns-clause-differs : goal.returns-clause-differs
returns-clause-differs g c =
    let L : Records = (content (font_of c.args.file.now.0 c.args.file.now.1) everything).outline in
    let past : (c.args.count ≤ c.loop-g.g) ⊎ (glyph_count (tables_of c.args.file.now.0 c.args.file.now.1)
    ≤ c.loop-g.g) =
    elim (cases_lt c.loop-g.g c.args.count) [
      | inl low ↦
          inr (omega (arith, low, c.loop-g-test.false, c.min-end.ensures, c.glyph_count.ensures))
      | inr high ↦
          inl high
    ] in
    other_end (listed_outline c.args.self.now) L c.loop-g.g c.args.count
    (glyph_count (tables_of c.args.file.now.0 c.args.file.now.1)) (whole_past c.args.file.now.0 c.args.file.now.1
    c.requires.form) past c.loop-g.invariant.2

pub returns-clause-taken : goal.returns-clause-taken
returns-clause-taken g c = λ none.
    let L : Records = (content (font_of c.args.file.now.0 c.args.file.now.1) everything).outline in
    let past : (c.args.count ≤ c.loop-g.g) ⊎ (glyph_count (tables_of c.args.file.now.0 c.args.file.now.1)
    ≤ c.loop-g.g) =
    elim (cases_lt c.loop-g.g c.args.count) [
      | inl low ↦
          inr (omega (arith, low, c.loop-g-test.false, c.min-end.ensures, c.glyph_count.ensures))
      | inr high ↦
          inl high
    ] in
    taken_end c.args.self.now c.loop-g.self L c.loop-g.g c.args.count
    (glyph_count (tables_of c.args.file.now.0 c.args.file.now.1)) c.requires.count
    (whole_past c.args.file.now.0 c.args.file.now.1 c.requires.form) past c.loop-g.invariant.0
