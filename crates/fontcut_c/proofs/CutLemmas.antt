-- The file of what a cut is made of is the cut, and what was answered of that file is answered of the cut. So is what
-- was answered before it was made.
use Rattle.std.proofs.Common.{◌≡◌, ℕ, List, Bool, true, ◌++◌, length, drop, ap, sym, ◌∙◌, None, Some}
use Rattle.std.proofs.Common.{Result, option_map}
use Rattle.std.proofs.Common.{MatchResult, arith}
use Rattle.std.proofs.lemmas.Option.{none-some}
use Rattle.std.proofs.lemmas.Result.{MatchResult-weaker}
use Rattle.font_file.specs.Font.{font_fault}
use Rattle.font_file.specs.declared.font_error.FontError.{FontError}
use Rattle.font_theory.specs.File.{current_writing, file}
use Rattle.font_theory.specs.Kinds.{fault_of}
use Rattle.font_theory.specs.declared.kinds.Kind.{Kind}
use Rattle.font_theory.proofs.KindLemmas.{kind_is}
use Rattle.font_subset.specs.KeptGlyphs.{written_content}
use Rattle.font_subset.specs.CutOfKind.{cut_of, opened_font_cut}
use Rattle.font_subset.specs.KeptGlyphs.{asked, wanted_in}
use Rattle.font_subset.proofs.ClosingRefusalLemmas.{font_refused}
use Rattle.font_subset.proofs.CutLemmas.{cut_in_is}
use Rattle.font_subset.proofs.SourceLemmas.{Held}
use Rattle.commands.proofs.HeldLemmas.{holds_of_font}
use Rattle.commands.specs.Run.{requested_cut, requested_fault}
use Rattle.fontcut_c.specs.Cutting.{AcceptsRequest, IsCutInRoom, IsCutSize, IsRefusedFor, RefusesSubset}
use Rattle.fontcut_c.specs.GlyphSets.{RefusesClosure}
use Rattle.fontcut_c.specs.Inside.{IsFileInRoom, RefusesFile, RefusesOpening, RefusesRequest, cut_of_set, wished_cut}
use Rattle.fontcut_c.specs.Requests.{RawRequest, closes_for, request_of, wished}
use Rattle.fontcut_c.specs.declared.wanted_set.WantedSet.{WantedSet}
use Rattle.fontcut_c.specs.declared.refusal.Refusal.{Refusal}
use Rattle.fontcut_c.specs.declared.refusal.Refusal.TheVariants.{BadRange, BadText, Font, Join, NoGlyph, NoMemory}
use Rattle.fontcut_c.specs.declared.refusal.Refusal.TheVariants.{Second, SmallRoom, TooLarge}

-- the file of a source is the cut that is asked for
pub file_of_source : (kind : Kind) (font : List ℕ) (a : RawRequest) (opened : Kind × (List ℕ × Bool))
    (held : Kind × List ℕ) (set : WantedSet) (source : Held)
    → opened ≡ (kind, (font, closes_for kind a)) → held ≡ (opened.0, opened.1.0)
    → cut_of_set opened set ≡ wished_cut opened a
    → source ≡ (held.0, (held.1, asked (Some set.codes) (option_map (λ v. v.items) set.numbers)))
    → file current_writing (written_content source) ≡ requested_cut (request_of kind a) font
file_of_source kind font a opened held set source same held_is wanted source_is =
    cut_in_is held (Some set.codes) (option_map (λ v. v.items) set.numbers) source source_is
    ∙ (λ i. cut_of (held_is i).0 (held_is i).1 (wanted_in (asked (Some set.codes)
    (option_map (λ v. v.items) set.numbers))))
    ∙ wanted
    ∙ (λ i. opened_font_cut (same i) (wished a))

-- what is refused as a font is refused for cuts of each kind
pub refused_for : (kind : Kind) (font : List ℕ) (error : FontError) → font_fault font ≡ Some error
    → fault_of kind font ≡ Some error
refused_for kind font error h = (kind_is kind).refused font error h

-- what is refused as a font is not accepted as one
pub refused_accepted : {P : Type 0} (font : List ℕ) (error : FontError) → font_fault font ≡ Some error
    → font_fault font ≡ None → P
refused_accepted font error refused accepted = absurd (none-some error (sym accepted ∙ refused))

-- what is refused as a font is refused for each cut, whatever is asked
pub request_refused : (kind : Kind) (font : List ℕ) (a : RawRequest) (error : FontError)
    → font_fault font ≡ Some error → IsRefusedFor kind font a error
request_refused kind font a error h =
    (font_refused (closes_for kind a) kind font error h, refused_accepted font error h)

-- what refuses the request refuses the cut
pub cut_refused : (kind : Kind) (font : List ℕ) (a : RawRequest) (room : ℕ) (refusal : Refusal)
    → RefusesRequest font a refusal → RefusesSubset kind font a room refusal
cut_refused kind font a room (Font error) h = request_refused kind font a error h
cut_refused kind font a room (BadRange k) h = h
cut_refused kind font a room (NoGlyph index) h = h
cut_refused kind font a room NoMemory h = absurd h
cut_refused kind font a room (TooLarge size) h = absurd h
cut_refused kind font a room (SmallRoom size) h = absurd h
cut_refused kind font a room (Second error) h = absurd h
cut_refused kind font a room (Join error) h = absurd h
cut_refused kind font a room (BadText index) h = absurd h

-- what refuses the request refuses the closure
pub closure_refused : (kind : Kind) (font : List ℕ) (r : RawRequest) (room : ℕ) (refusal : Refusal)
    → RefusesRequest font r refusal → RefusesClosure kind font r room refusal
closure_refused kind font r room (Font error) h = (font_refused true kind font error h, refused_accepted font error h)
closure_refused kind font r room (BadRange k) h = h
closure_refused kind font r room (NoGlyph index) h = h
closure_refused kind font r room NoMemory h = absurd h
closure_refused kind font r room (TooLarge size) h = absurd h
closure_refused kind font r room (SmallRoom size) h = absurd h
closure_refused kind font r room (Second error) h = absurd h
closure_refused kind font r room (Join error) h = absurd h
closure_refused kind font r room (BadText index) h = absurd h

-- a font that is not opened has no cut
pub unopened_cut : (kind : Kind) (font : List ℕ) (a : RawRequest) (room : ℕ) → AcceptsRequest font a
    → (refusal : Refusal)
    → RefusesOpening kind font a refusal → RefusesSubset kind font a room refusal
unopened_cut kind font a room accepted (Font error) h = (h, λ _. (accepted.good, accepted.known))
unopened_cut kind font a room accepted NoMemory h = accepted
unopened_cut kind font a room accepted (BadRange k) h = absurd h
unopened_cut kind font a room accepted (NoGlyph index) h = absurd h
unopened_cut kind font a room accepted (TooLarge size) h = absurd h
unopened_cut kind font a room accepted (SmallRoom size) h = absurd h
unopened_cut kind font a room accepted (Second error) h = absurd h
unopened_cut kind font a room accepted (Join error) h = absurd h
unopened_cut kind font a room accepted (BadText index) h = absurd h

module _ (kind : Kind) (font : List ℕ) (a : RawRequest) (made : List ℕ) (accepted : AcceptsRequest font a)
    (opened : requested_fault (request_of kind a) font ≡ None)
    (is : made ≡ requested_cut (request_of kind a) font) where
  size_of_cut : (size : ℕ) → size ≡ length made → IsCutSize kind font a size
  size_of_cut size e = record { accepted = accepted; opened = opened; size_is = e ∙ ap (λ (b : List ℕ). length b) is }

  not_written : (room : ℕ) (refusal : Refusal) → RefusesFile made room refusal
      → RefusesSubset kind font a room refusal
  not_written room (TooLarge size) h = (size_of_cut size h.0, h.1)
  not_written room NoMemory h = absurd h
  not_written room (SmallRoom size) h = (size_of_cut size h.0, h.1, h.2)
  not_written room (Font error) h = absurd h
  not_written room (BadRange k) h = absurd h
  not_written room (Second error) h = absurd h
  not_written room (Join error) h = absurd h
  not_written room (BadText index) h = absurd h
  not_written room (NoGlyph index) h = absurd h

  pub cut_answered : (old new : List ℕ) (result : Result ℕ Refusal)
      → MatchResult result (IsFileInRoom made old new) (λ refusal. (new ≡ old) × RefusesFile made (length old) refusal)
      → MatchResult result (IsCutInRoom kind font a old new) (λ refusal. (new ≡ old)
      × RefusesSubset kind font a (length old) refusal)
  cut_answered old new result h =
      MatchResult-weaker result h
      (λ n s.
      let w = s.written in
      record {
        accepted = accepted;
        opened = opened;
        small = s.small;
        holds = holds_of_font (request_of kind a) font opened
            (let long = ap (λ (b : List ℕ). length b) is in omega (arith, long, w.length_is, s.small));
        written =
            record {
              length_is = w.length_is ∙ ap (λ (b : List ℕ). length b) is;
              fits = w.fits;
              at_front = w.at_front ∙ ap (λ (b : List ℕ). b ++ drop n old) is;
            };
      })
      (λ refusal p. (p.0, not_written (length old) refusal p.1))
