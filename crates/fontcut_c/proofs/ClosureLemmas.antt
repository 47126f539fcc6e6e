-- What was answered of the numbers of a closure is answered of the closure.
use Rattle.std.proofs.Common.{◌≡◌, ◌∙◌, ◌++◌, ℕ, List, true, None, ap, drop, length, Result, MatchResult}
use Rattle.std.proofs.lemmas.Result.{MatchResult-weaker}
use Rattle.font_theory.specs.declared.kinds.Kind.{Kind}
use Rattle.font_subset.specs.OpenedFont.{cutting_fault}
use Rattle.commands.proofs.HeldLemmas.{accepted_for}
use Rattle.fontcut_c.specs.Answers.{IsInRoom}
use Rattle.fontcut_c.specs.Cutting.{AcceptsRequest}
use Rattle.fontcut_c.specs.GlyphSets.{IsClosureInRoom, RefusesClosure, closure_of}
use Rattle.fontcut_c.specs.Inside.{IsBadText, RefusesRoom}
use Rattle.fontcut_c.specs.Requests.{RawRequest}
use Rattle.fontcut_c.specs.TextRanges.{RefusesRanges}
use Rattle.fontcut_c.specs.declared.refusal.Refusal.{Refusal}
use Rattle.fontcut_c.specs.declared.refusal.Refusal.TheVariants.{BadRange, BadText, Font, Join, NoGlyph, NoMemory}
use Rattle.fontcut_c.specs.declared.refusal.Refusal.TheVariants.{Second, SmallRoom, TooLarge}
use Rattle.fontcut_c.proofs.ListedLemmas.{closure_cut}
use Rattle.fontcut_c.proofs.ShapedLemmas.{has_shaped}

module _ (kind : Kind) (font : List ℕ) (a : RawRequest) (numbers : List ℕ) (accepted : AcceptsRequest font a)
    (opened : cutting_fault true kind font ≡ None) (is : numbers ≡ closure_of kind font a) where
  unwritten : (room : ℕ) (refusal : Refusal) → RefusesRoom (length numbers) room refusal
      → RefusesClosure kind font a room refusal
  unwritten room (SmallRoom size) h = (accepted, opened, h.0 ∙ ap (λ (l : List ℕ). length l) is, h.1)
  unwritten room NoMemory h = absurd h
  unwritten room (TooLarge size) h = absurd h
  unwritten room (Font error) h = absurd h
  unwritten room (BadRange k) h = absurd h
  unwritten room (NoGlyph index) h = absurd h
  unwritten room (Second error) h = absurd h
  unwritten room (Join error) h = absurd h
  unwritten room (BadText index) h = absurd h

  pub closure_answered : (old new : List ℕ) (result : Result ℕ Refusal)
      → MatchResult result (IsInRoom numbers old new) (λ refusal. (new ≡ old)
      × RefusesRoom (length numbers) (length old) refusal)
      → MatchResult result (IsClosureInRoom kind font a old new) (λ refusal. (new ≡ old)
      × RefusesClosure kind font a (length old) refusal)
  closure_answered old new result h =
      MatchResult-weaker result h
      (λ n w. record {
        accepted = accepted;
        opened = opened;
        closes = closure_cut kind font a (accepted_for true kind font opened);
        shapes = has_shaped kind font a opened;
        written =
            record {
              length_is = w.length_is ∙ ap (λ (l : List ℕ). length l) is;
              fits = w.fits;
              at_front = w.at_front ∙ ap (λ (l : List ℕ). l ++ drop n old) is;
            };
      })
      (λ refusal p. (p.0, unwritten (length old) refusal p.1))

-- a text that is not as it should be has no ranges
pub text_refused : (room : ℕ) (refusal : Refusal) → IsBadText refusal → RefusesRanges room refusal
text_refused room (BadText index) h = tt
text_refused room NoMemory h = tt
text_refused room (SmallRoom size) h = absurd h
text_refused room (TooLarge size) h = absurd h
text_refused room (Font error) h = absurd h
text_refused room (BadRange k) h = absurd h
text_refused room (NoGlyph index) h = absurd h
text_refused room (Second error) h = absurd h
text_refused room (Join error) h = absurd h
