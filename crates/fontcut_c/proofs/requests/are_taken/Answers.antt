use Rattle.std.proofs.Common.{rules, ◌≡◌, ◌∙◌, false, true, sym}
use Rattle.fontcut_c.specs.KindNumbers.{takes_glyphs}
use Rattle.fontcut_c.specs.Requests.{RawRequest}
use Rattle.fontcut_c.proofs.RequestLemmas.{all_more, all_stop}
use Rattle.fontcut_c.proofs.requests.are_taken.Goals as goal

pub returns-then-not-takes_glyphs : goal.returns-then-not-takes_glyphs
returns-then-not-takes_glyphs c =
    let no : c.takes_glyphs.result ≡ false = search rules in
    sym (all_stop (λ (a : RawRequest). takes_glyphs c.args.kind a.glyphs) c.args.requests.now c.loop-index.index _
    c.loop-index-test.true (sym c.takes_glyphs.ensures ∙ no))

pub loop-index-preserved : goal.loop-index-preserved
loop-index-preserved c =
    let yes : c.takes_glyphs.result ≡ true = search rules in
    all_more (λ (a : RawRequest). takes_glyphs c.args.kind a.glyphs) c.args.requests.now c.loop-index.index _
    c.loop-index-test.true c.loop-index.invariant (sym c.takes_glyphs.ensures ∙ yes)
