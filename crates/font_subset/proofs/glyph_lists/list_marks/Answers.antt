use Rattle.std.proofs.Common.{◌≡◌, ◌∙◌, ◌++◌, ◌∷◌, [], ap, append-nil, append_assoc, arith, sym, List, ℕ}
use Rattle.font_glyph.specs.Marks.{has}
use Rattle.font_subset.specs.KeptGlyphs.{numbers_in}
use Rattle.font_subset.proofs.GlyphListLemmas.{none_between, one_listed}
use Rattle.font_subset.proofs.glyph_lists.list_marks.Goals as goal

pub loop-next-init : goal.loop-next-init
loop-next-init g c =
    let none : numbers_in (has c.args.marks.now) c.next_from-next.result ≡ [] =
    none_between (has c.args.marks.now) 0 c.next_from-next.result c.next_from-next.ensures.order
    c.next_from-next.ensures.passed in
    record {
      within = omega (arith, c.next_from-next.ensures.within, c.requires);
      marked = λ low. c.next_from-next.ensures.marked (omega (arith, low, c.requires));
      listed = sym (append-nil c.args.glyphs.now.items) ∙ ap (λ (l : List ℕ). c.args.glyphs.now.items ++ l) (sym none);
    }

pub loop-next-preserved : goal.loop-next-preserved
loop-next-preserved g c =
    let more = c.next_from-next-in-loop-next.ensures in
    let pushed : c.push.new.values.items ≡ c.loop-next.glyphs.items ++ c.loop-next.next ∷ [] =
    c.in_ok-push.ensures.pushed in
    record {
      within = omega (arith, more.within, c.requires);
      marked = λ low. more.marked (omega (arith, low, c.requires));
      listed = pushed ∙ ap (λ (l : List ℕ). l ++ c.loop-next.next ∷ []) c.loop-next.invariant.listed
          ∙ append_assoc c.args.glyphs.now.items _ (c.loop-next.next ∷ [])
          ∙ ap (λ (l : List ℕ). c.args.glyphs.now.items ++ l) (sym (one_listed (has c.args.marks.now) c.loop-next.next
          c.next_from-next-in-loop-next.result more.order
          (c.loop-next.invariant.marked (omega (arith, c.loop-next-test.true))) more.passed));
    }
