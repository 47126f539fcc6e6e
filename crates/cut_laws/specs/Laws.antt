-- Laws of cuts that documents speak of, this project's own, each of them the contract of a function.
use Rattle.std.specs.Prelude.{◌≡◌, ◌≢◌, ℕ, Bool, true, false, List, None, Some}
use Rattle.codes.specs.CharacterMap.{is_mapped}
use Rattle.font_tables.specs.Fields.{glyph_count_of}
use Rattle.font_file.specs.Font.{map_of}
use Rattle.font_theory.specs.Content.{Wanted, everything, is_kept}
use Rattle.font_theory.specs.Cut.{IsCurrent, renewed}
use Rattle.font_theory.specs.Kinds.{fault_of, font_of, format_of}
use Rattle.font_theory.specs.declared.kinds.Kind.{Kind}
use Rattle.font_subset.specs.CutOfKind.{closed_if, closed_of, cut_of}
use Rattle.font_subset.specs.KeptGlyphs.{glyphs_wanted, numbers_in}

-- some codes, and the glyphs of a list
abbrev pub listed : (ℕ → Bool) → List ℕ → Wanted
listed codes numbers = record { codes = codes; glyphs = glyphs_wanted (Some numbers) }

-- the glyphs that a file keeps of itself, as `kept_glyphs` lists them
abbrev pub kept_numbers : Kind → List ℕ → List ℕ
kept_numbers kind file = numbers_in (is_kept (font_of kind file) everything) (glyph_count_of file)

-- the cut of a file for them, and for codes among which are all that it maps, is the file written anew
abbrev pub OwnCutIsRenewed : Type 0
OwnCutIsRenewed =
    (kind : Kind) (file : List ℕ) (codes : ℕ → Bool) → fault_of kind file ≡ None
    → ((c : ℕ) → map_of file c ≢ 0 → codes c ≡ true)
    → cut_of kind file (listed codes (kept_numbers kind file)) ≡ renewed (format_of kind) file

-- so they and the codes that it maps give a current cut back
abbrev pub CutIsGivenBack : Type 0
CutIsGivenBack =
    (kind : Kind) (file : List ℕ) → IsCurrent (format_of kind) file
    → cut_of kind file (listed (is_mapped (map_of file)) (kept_numbers kind file)) ≡ file

-- the glyphs that links lead to from what is wanted, as `closure` of an opened font lists them
abbrev pub closure_numbers : Kind → List ℕ → Wanted → List ℕ
closure_numbers kind file W = numbers_in (closed_of kind file W).glyphs (glyph_count_of file)

-- the cut for them is, without links, the closed cut
abbrev pub ClosedCutIsPlain : Type 0
ClosedCutIsPlain =
    (kind : Kind) (file : List ℕ) (W : Wanted) → fault_of kind file ≡ None
    → cut_of kind file (closed_if false kind file (listed W.codes (closure_numbers kind file W)))
    ≡ cut_of kind file (closed_if true kind file W)
