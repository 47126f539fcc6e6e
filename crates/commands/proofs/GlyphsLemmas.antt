-- The mapped codes of a map, one after the other, and the words that name them.
use Rattle.std.proofs.Common.{◌≡◌, ℕ, zero, suc, ◌+◌, ◌-◌, ◌<◌, ◌≤◌, Bool, true, cond, List, [], ◌∷◌, ◌++◌}
use Rattle.std.proofs.Common.{filter, Option, None, Some, MatchOption, refl, sym, ap, subst, ◌∙◌, arith, inl, inr}
use Rattle.std.proofs.Common.{eq-eqb}
use Rattle.std.proofs.lemmas.Bool.{cases_lt}
use Rattle.std.proofs.lemmas.Bool.Decides.{nat_tests}
use Rattle.std.specs.Fmt.{digits}
use Rattle.std.specs.List.{flat_map, range_with_len}
use Rattle.std.specs.Option.{IfSome}
use Rattle.codes.specs.CharacterMap.{IsCharacterMap, is_mapped}
use Rattle.codes.specs.Runs.{IsRun, NoRun}
use Rattle.codes.specs.Wanted.{IsBadRange}
use Rattle.codes.specs.Word.{IsWord, code_word}
use Rattle.codes.specs.declared.runs.Run.{Run}
use Rattle.codes.proofs.RunLemmas.{run_gives}
use Rattle.font_file.specs.Font.{cmap_of, map_of}
use Rattle.font_tables.specs.Fields.{glyph_count_of}
use Rattle.font_map.specs.Mapping.{mapping_of}
use Rattle.font_map.proofs.MappingLemmas.{mapping_of-small}
use Rattle.font_subset.proofs.FontLemmas.{range_with_len-step}
use Rattle.commands.specs.MappedGlyphs.{glyph_line, glyphs_text, mapped_from}
use Rattle.commands.specs.Places.{IsCodePlace, IsPlaceFrom, codes_at}
use Rattle.commands.specs.declared.mapped_glyphs.Place.{Place}
use Rattle.commands.proofs.CodesLemmas.{mapped_no, range_to, run-mapped, word-reads}

-- a mapped code is the first of those from it on
first_is : (m : ℕ → ℕ) (code : ℕ) → code ≤ 0x10FFFF → is_mapped m code ≡ true → mapped_from m code ≡ code
    ∷ mapped_from m (code + 1)
unfolding mapped_from
first_is m code within mapped =
    ap (filter (is_mapped m)) (range_with_len-step code 0x110000 (omega (arith, within)))
    ∙ ap (λ (t : Bool). cond t (code ∷ mapped_from m (code + 1)) (mapped_from m (code + 1))) mapped

-- a code that is not mapped is passed over
passed_over : (m : ℕ → ℕ) (code : ℕ) → code ≤ 0x10FFFF → m code ≡ 0 → mapped_from m code ≡ mapped_from m (code + 1)
unfolding mapped_from
passed_over m code within none =
    ap (filter (is_mapped m)) (range_with_len-step code 0x110000 (omega (arith, within)))
    ∙ ap (λ (t : Bool). cond t (code ∷ mapped_from m (code + 1)) (mapped_from m (code + 1))) (mapped_no m code none)

-- so are n of them
all_passed_over : (m : ℕ → ℕ) (n from : ℕ) → from + n ≤ 0x110000 → ((c : ℕ) → from ≤ c → c < from + n → m c ≡ 0)
    → mapped_from m from ≡ mapped_from m (from + n)
all_passed_over m zero from within none = ap (mapped_from m) (omega arith)
all_passed_over m (suc n) from within none =
    passed_over m from (omega (arith, within)) (none from (omega arith) (omega arith))
    ∙ all_passed_over m n (from + 1) (omega (arith, within)) (λ c low high. none c (omega (arith, low))
    (omega (arith, high)))
    ∙ ap (mapped_from m) (omega arith)

-- where no code is mapped there is none
filter-none : (m : ℕ → ℕ) (n from : ℕ) → NoRun m from → filter (is_mapped m) (range_with_len from n) ≡ []
filter-none m zero from none = refl
filter-none m (suc n) from none =
    ap (λ (t : Bool). cond t (from ∷ filter (is_mapped m) (range_with_len (from + 1) n))
    (filter (is_mapped m) (range_with_len (from + 1) n))) (mapped_no m from (none from (omega arith)))
    ∙ filter-none m n (from + 1) (λ c low. none c (omega (arith, low)))

pub none_mapped : (m : ℕ → ℕ) (from : ℕ) → NoRun m from → mapped_from m from ≡ []
unfolding mapped_from
none_mapped m from none = filter-none m (0x110000 - from) from none

-- a run begins at the first mapped code
pub place_of_run : (m : ℕ → ℕ) (from : ℕ) (place : Place) → IsRun m from place.run → place.code ≡ place.run.first
    → IsPlaceFrom m from place
place_of_run m from place h at =
    let skipped : mapped_from m from ≡ mapped_from m place.run.first =
    all_passed_over m (place.run.first - from) from (omega (arith, h.piece.from_on, h.piece.order, h.piece.within))
    (λ c low high. h.piece.least c low (omega (arith, high, h.piece.from_on)))
    ∙ ap (mapped_from m) (omega (arith, h.piece.from_on)) in
    record {
      there = record { from = from; run = h; low = omega (arith, at); high = omega (arith, at, h.piece.order) };
      from_on = omega (arith, at, h.piece.from_on);
      first =
          skipped ∙ ap (mapped_from m) (sym at)
          ∙ first_is m place.code (omega (arith, at, h.piece.order, h.piece.within))
          (run-mapped m from place.run h place.code (omega (arith, at)) (omega (arith, at, h.piece.order)));
    }

-- and goes on to the next code
pub place_in_run : (m : ℕ → ℕ) (old new : Place) → IsCodePlace m old → old.code < old.run.last → new.run ≡ old.run
    → new.code ≡ old.code + 1 → IsPlaceFrom m (old.code + 1) new
place_in_run m old new h more same on =
    let run : IsRun m h.from new.run = subst (IsRun m h.from) (sym same) h.run in
    let low : new.run.first ≤ new.code = omega (arith, ap (λ (r : Run). r.first) same, h.low, on) in
    let high : new.code ≤ new.run.last = omega (arith, ap (λ (r : Run). r.last) same, more, on) in
    record {
      there = record { from = h.from; run = run; low = low; high = high };
      from_on = omega (arith, on);
      first =
          ap (mapped_from m) (sym on)
          ∙ first_is m new.code (omega (arith, high, run.piece.within)) (run-mapped m h.from new.run run new.code low
          high);
    }

-- the glyph of a place
pub glyph_at : (m : ℕ → ℕ) (place : Place) → IsCodePlace m place → m place.code ≡ place.run.glyph
    + (place.code - place.run.first)
glyph_at m place h = run_gives m h.from place.run h.run place.code h.low h.high

pub glyph_below : (file : List ℕ) (place : Place) → IsCodePlace (map_of file) place → map_of file place.code
    < glyph_count_of file
glyph_below file place h =
    let at = glyph_at (map_of file) place h in
    elim (mapping_of-small (cmap_of file) (glyph_count_of file) place.code) [
      | inl none ↦ absurd (omega (arith, none, at, h.run.piece.mapped))
      | inr low ↦ low
    ]

-- a code that is mapped is named by its word
pub word_law : (m : ℕ → ℕ) → IsCharacterMap m → (code : ℕ) → is_mapped m code ≡ true → IsWord (code_word code) code code
    × (IsBadRange code code → ⊥)
word_law m ok code mapped =
    let within : code ≤ 0x10FFFF = elim (cases_lt code 0x110000) [
      | inl x ↦ omega (arith, x)
      | inr x ↦ absurd (grind (arith, nat_tests, mapped, ok.codes code x))
    ] in
    let read = word-reads (range_to code code) (omega arith) within in (
      subst (λ (t : Bool). IsWord (cond t (code_word code) (code_word code ++ 45 ∷ digits 16 true code)) code code)
          (eq-eqb code code refl) read.word,
      read.good,
    )

-- the map of a chart is that of the font that it was made of
pub charted : (chart : List ℕ × ℕ) (file value : List ℕ) → chart ≡ (cmap_of file, glyph_count_of file) → file ≡ value
    → mapping_of chart.0 chart.1 ≡ map_of value
charted chart file value same is = ap (λ (pair : List ℕ × ℕ). mapping_of pair.0 pair.1) same ∙ ap map_of is

-- a glyph of a place is one of the font
pub glyph_fits : (file value : List ℕ) (place : Place) → file ≡ value → IsCodePlace (map_of value) place
    → place.run.glyph + (place.code - place.run.first) < glyph_count_of file
glyph_fits file value place is h =
    let there : IsCodePlace (map_of file) place = subst (λ (f : List ℕ). IsCodePlace (map_of f) place) (sym is) h in
    omega (arith, glyph_at (map_of file) place there, glyph_below file place there)

-- the first place, or the next one, and the codes from there on
pub codes_from : (m : ℕ → ℕ) (from : ℕ) (place : Option Place)
    → MatchOption place (mapped_from m from ≡ []) (IsPlaceFrom m from) → IfSome place (IsCodePlace m)
    × (mapped_from m from ≡ codes_at m place)
codes_from m from None none = (tt, none)
codes_from m from (Some place) h = (h.there, h.first)

-- how many codes are left from a place on
abbrev pub left_from : Option Place → ℕ
left_from None = 0
left_from (Some place) = 0x110000 - place.code

fewer_of : (m : ℕ → ℕ) (here : Place) (new : Option Place) → here.code ≤ 0x10FFFF
    → MatchOption new (mapped_from m (here.code + 1) ≡ []) (IsPlaceFrom m (here.code + 1)) → left_from new < 0x110000
    - here.code
fewer_of m here None within next = omega (arith, within)
fewer_of m here (Some place) within next = omega (arith, within, next.from_on)

pub fewer_left : (m : ℕ → ℕ) (here : Place) (old new : Option Place) → old ≡ Some here → IfSome old (IsCodePlace m)
    → MatchOption new (mapped_from m (here.code + 1) ≡ []) (IsPlaceFrom m (here.code + 1))
    → left_from new < left_from old
fewer_left m here old new is there next =
    let at : IsCodePlace m here = subst (λ (p : Option Place). IfSome p (IsCodePlace m)) is there in
    let within : here.code ≤ 0x10FFFF = omega (arith, at.high, at.run.piece.within) in
    subst (λ (p : Option Place). left_from new < left_from p) (sym is) (fewer_of m here new within next)

-- the text is the lines of all codes, and of a place first that of its code
pub text_begins : (file codes : List ℕ) → mapped_from (map_of file) 0 ≡ codes
    → glyphs_text file ≡ flat_map (glyph_line file) codes
unfolding glyphs_text
text_begins file codes e = ap (flat_map (glyph_line file)) e

pub code_then_rest : (m : ℕ → ℕ) (here : Place) (place next : Option Place) → place ≡ Some here
    → mapped_from m (here.code + 1) ≡ codes_at m next → codes_at m place ≡ here.code ∷ codes_at m next
code_then_rest m here place next is rest = ap (codes_at m) is ∙ ap (λ (codes : List ℕ). here.code ∷ codes) rest
