-- The files of what the cuts for many requests are made of are these cuts, and what was answered of the files is
-- answered of the cuts.
use Rattle.std.proofs.Common.{◌≡◌, ℕ, ◌&&◌, Bool, true, List, [], ◌∷◌, length, map}
use Rattle.std.proofs.Common.{None, Some, Result, MatchResult, option_map, refl, ap, sym, subst, ◌∙◌}
use Rattle.std.specs.List.{list_all}
use Rattle.std.proofs.lemmas.List.{length-map}
use Rattle.std.proofs.lemmas.Result.{MatchResult-weaker}
use Rattle.std.proofs.lemmas.Simd.{map-map}
use Rattle.commands.specs.Run.{requested_cut, requested_fault}
use Rattle.font_file.specs.Font.{font_fault}
use Rattle.font_theory.specs.File.{current_writing, file}
use Rattle.font_theory.specs.declared.kinds.Kind.{Kind}
use Rattle.font_subset.specs.KeptGlyphs.{asked, written_content}
use Rattle.font_subset.specs.CutOfKind.{keeps_links}
use Rattle.font_subset.proofs.CutLemmas.{cut_in_is}
use Rattle.font_subset.proofs.SourceLemmas.{Held}
use Rattle.fontcut_c.specs.ManyCuts.{AcceptsAll, AreCutsInRoom, AreInRoom, RefusesSubsets, cuts_for}
use Rattle.fontcut_c.specs.Requests.{RawRequest, asked_at, closes_for, has_closes, is_like, request_of}
use Rattle.fontcut_c.specs.Inside.{RefusesAll, RefusesCuts, RefusesFiles, RefusesOpening, cut_of_set, wished_cut}
use Rattle.fontcut_c.specs.declared.refusal.Refusal.{Refusal}
use Rattle.fontcut_c.specs.declared.refusal.Refusal.TheVariants.{BadRange, BadText, Font, Join, NoGlyph, NoMemory}
use Rattle.fontcut_c.specs.declared.refusal.Refusal.TheVariants.{Second, SmallRoom, TooLarge}
use Rattle.fontcut_c.specs.declared.wanted_set.WantedSet.{WantedSet}
use Rattle.fontcut_c.proofs.CutLemmas.{refused_accepted, request_refused}
use Rattle.fontcut_c.proofs.RequestLemmas.{same_flags, same_rest}

-- the cuts of a font that was opened as the first request asks are those that all ask for, if they are like it
same_cuts :
    (kind : Kind) (font : List ℕ) (first : RawRequest) (all : List RawRequest) → list_all (is_like first) all ≡ true
    → map (wished_cut (kind, (font, closes_for kind first))) all ≡ cuts_for kind font all
same_cuts kind font first [] h = refl
same_cuts kind font first (a ∷ all) h =
    let flags : a.flags ≡ first.flags = same_flags first a all h in
    let one : wished_cut (kind, (font, closes_for kind first)) a ≡ requested_cut (request_of kind a) font =
    λ i. wished_cut (kind, (font, has_closes (sym flags i) && keeps_links kind)) a in
    let rest = same_cuts kind font first all (same_rest first a all h) in
    λ i. one i ∷ rest i

-- what the cut for a set is made of
abbrev pub made_of : Kind × List ℕ → WantedSet → Held
made_of font set = (font.0, (font.1, asked (Some set.codes) (option_map (λ v. v.items) set.numbers)))

-- the file of the cut that is made of this
abbrev pub made_file : Held → List ℕ
made_file s = file current_writing (written_content s)

-- what is passed on as slices is what stands in the vectors
module _ (kind : Kind) (font : List ℕ) (all : List RawRequest) (opened : Kind × (List ℕ × Bool)) (held : Kind × List ℕ)
    (wanted given : List WantedSet) (made seen : List Held) (alike : list_all (is_like (asked_at all 0)) all ≡ true)
    (is_opened : opened ≡ (kind, (font, closes_for kind (asked_at all 0)))) (is_held : held ≡ (opened.0, opened.1.0))
    (are_wanted : map (cut_of_set opened) wanted ≡ map (wished_cut opened) all)
    (are_given : given ≡ wanted) (are_made : made ≡ map (made_of held) given) (are_seen : seen ≡ made) where
  -- the files of all sources are the cuts
  pub files_of_sources : map made_file seen ≡ cuts_for kind font all
  files_of_sources =
      ap (λ (l : List Held). map made_file l) (are_seen
      ∙ (are_made ∙ ((λ i. map (made_of (is_held i)) given)
      ∙ ap (λ (l : List WantedSet). map (made_of (opened.0, opened.1.0)) l) are_given)))
      ∙ (map-map made_file (made_of (opened.0, opened.1.0)) wanted
      ∙ ((λ i. map (λ (set : WantedSet). cut_in_is (opened.0, opened.1.0) (Some set.codes)
      (option_map (λ v. v.items) set.numbers) (made_of (opened.0, opened.1.0) set) refl i) wanted)
      ∙ (are_wanted
      ∙ ((λ i. map (wished_cut (is_opened i)) all)
      ∙ same_cuts kind font (asked_at all 0) all alike))))

  -- there are as many sources as requests
  pub as_many : (places : ℕ) → places ≡ length all → places ≡ length seen
  as_many places e =
      e
      ∙ sym (sym (length-map seen made_file)
      ∙ (ap (λ (l : List (List ℕ)). length l) files_of_sources
      ∙ length-map all (λ (a : RawRequest). requested_cut (request_of kind a) font)))

-- what is answered of files
abbrev pub IsAnswered : List (List ℕ) → List ℕ → List ℕ → List ℕ → List ℕ → Result ℕ Refusal → Type 0
IsAnswered files old new old_sizes sizes result =
    MatchResult result (AreInRoom files old new sizes) (λ refusal. (new ≡ old) × (sizes ≡ old_sizes)
    × RefusesFiles files (length old) refusal)

-- a font that is not opened has no cuts
pub unopened_cuts :
    (kind : Kind) (font : List ℕ) (all : List RawRequest) (a : RawRequest) (room : ℕ) → a ≡ asked_at all 0
    → (refusal : Refusal) → RefusesOpening kind font a refusal → RefusesCuts kind font all room refusal
unopened_cuts kind font all a room e (Font error) h =
    subst (λ (b : RawRequest). requested_fault (request_of kind b) font ≡ Some error) e h
unopened_cuts kind font all a room e NoMemory h = h
unopened_cuts kind font all a room e (BadRange k) h = absurd h
unopened_cuts kind font all a room e (NoGlyph index) h = absurd h
unopened_cuts kind font all a room e (TooLarge size) h = absurd h
unopened_cuts kind font all a room e (SmallRoom size) h = absurd h
unopened_cuts kind font all a room e (Second error) h = absurd h
unopened_cuts kind font all a room e (Join error) h = absurd h
unopened_cuts kind font all a room e (BadText index) h = absurd h

-- of a font that was opened for what is asked, what is answered of files is answered of its cuts
module _ (kind : Kind) (font : List ℕ) (all : List RawRequest) (fine : font_fault font ≡ None)
    (accepted : AcceptsAll font all) (opened : requested_fault (request_of kind (asked_at all 0)) font ≡ None) where
  unwritten : (room : ℕ) (refusal : Refusal) → RefusesFiles (cuts_for kind font all) room refusal
      → RefusesCuts kind font all room refusal
  unwritten room NoMemory h = fine
  unwritten room (TooLarge size) h = (opened, h)
  unwritten room (SmallRoom size) h = (opened, h.0, h.1, h.2)
  unwritten room (Font error) h = absurd h
  unwritten room (BadRange k) h = absurd h
  unwritten room (NoGlyph index) h = absurd h
  unwritten room (Second error) h = absurd h
  unwritten room (Join error) h = absurd h
  unwritten room (BadText index) h = absurd h

  pub written : (old new old_sizes sizes : List ℕ) (files : List (List ℕ)) (result : Result ℕ Refusal)
      → files ≡ cuts_for kind font all → IsAnswered files old new old_sizes sizes result
      → MatchResult result (AreCutsInRoom kind font all old new sizes) (λ refusal. (new ≡ old) × (sizes ≡ old_sizes)
      × RefusesCuts kind font all (length old) refusal)
  written old new old_sizes sizes files result same is =
      let cuts = subst (λ (l : List (List ℕ)). IsAnswered l old new old_sizes sizes result) same is in
      MatchResult-weaker result cuts
      (λ size w. record { accepted = accepted; opened = opened; cuts = w })
      (λ refusal h. (h.0, h.1, unwritten (length old) refusal h.2))

-- what refuses the requests refuses their cuts
pub all_refused : (kind : Kind) (font : List ℕ) (all : List RawRequest) (room step : ℕ) (refusal : Refusal)
    → RefusesAll font all step refusal → RefusesSubsets kind font all room step refusal
all_refused kind font all room step (Font error) h =
    (h.0, (request_refused kind font (asked_at all 0) error h.1).0, refused_accepted font error h.1)
all_refused kind font all room step (BadRange k) h = h
all_refused kind font all room step (NoGlyph index) h = h
all_refused kind font all room step NoMemory h = absurd h.refused
all_refused kind font all room step (TooLarge size) h = absurd h.refused
all_refused kind font all room step (SmallRoom size) h = absurd h.refused
all_refused kind font all room step (Second error) h = absurd h.refused
all_refused kind font all room step (Join error) h = absurd h.refused
all_refused kind font all room step (BadText index) h = absurd h.refused

-- why cuts of an opened font are not written is why they are not answered
pub cuts_refused : (kind : Kind) (font : List ℕ) (all : List RawRequest) (room : ℕ) → AcceptsAll font all
    → (refusal : Refusal) → RefusesCuts kind font all room refusal → RefusesSubsets kind font all room 0 refusal
cuts_refused kind font all room accepted (Font error) h = (refl, h, λ _. accepted)
cuts_refused kind font all room accepted NoMemory h = (refl, accepted)
cuts_refused kind font all room accepted (TooLarge size) h = (refl, accepted, h.0, h.1)
cuts_refused kind font all room accepted (SmallRoom size) h = (refl, accepted, h.0, h.1, h.2, h.3)
cuts_refused kind font all room accepted (BadRange k) h = absurd h
cuts_refused kind font all room accepted (NoGlyph index) h = absurd h
cuts_refused kind font all room accepted (Second error) h = absurd h
cuts_refused kind font all room accepted (Join error) h = absurd h
cuts_refused kind font all room accepted (BadText index) h = absurd h
