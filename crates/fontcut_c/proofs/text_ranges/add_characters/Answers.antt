use Rattle.std.proofs.Common.{◌≡◌, ℕ, List, true, map-id, subst, sym, ◌∙◌, All}
use Rattle.std.proofs.lemmas.Iterator.{YieldsList-from_chars}
use Rattle.std.proofs.lemmas.Iterator.Consumers.{YieldsList-end}
use Rattle.std.proofs.lemmas.List.Elements.{All-push}
use Rattle.codes.specs.declared.code_range.CodeRange.{CodeRange}
use Rattle.fontcut_c.specs.Requests.{codes_of_ranges}
use Rattle.fontcut_c.proofs.RangeLemmas.{wanted_by_added, wanted_by_kept}
use Rattle.fontcut_c.proofs.text_ranges.add_characters.Goals as goal

pub loop-letter-preserved-in-Continue-1 : goal.loop-letter-preserved-in-Continue-1
loop-letter-preserved-in-Continue-1 c =
    let before = c.loop-letter.ranges.items in
    let after = c.push.new.self.items in
    let letter = c.in-Some.letter in
    let pushed = sym c.in_ok-push.ensures.items in
    let have : List CodeRange → ℕ → Type 0 = λ ranges code. codes_of_ranges ranges code ≡ true in
    let kept : (code : ℕ) → have before code → have after code =
    λ code is. subst (λ ranges. have ranges code) pushed (wanted_by_kept before _ code is) in
    let added : have after letter = subst (λ ranges. have ranges letter) pushed (wanted_by_added before letter) in
    let all : All (have after) c.loop-letter.yielded = λ k d less. kept _ (c.loop-letter.invariant.0 k d less) in
    (All-push (have after) _ letter all added, λ code is. kept code (c.loop-letter.invariant.1 code is))

pub returns : goal.returns
returns c =
    let end =
    YieldsList-end (YieldsList-from_chars c.args.text.now c.utf8.text cc) c.loop-letter.yielded _
    c.loop-letter.yielded_by _ _ c.in-None.is c.next.ensures.steps in
    subst (All (λ code. codes_of_ranges c.loop-letter.ranges.items code ≡ true))
    (sym (map-id c.loop-letter.yielded) ∙ end.0) c.loop-letter.invariant.0
