-- What the calls for glyphs of codes and for metrics of glyphs answer, this project's own (OpenType 1.9,
-- cmap and hmtx).
use Rattle.std.specs.Prelude.{◌≡◌, ℕ, nat_eq, ◌||◌, Bool, false, true, ◌<◌, ◌≤◌, ℤ, List, length, map, None, Some}
use Rattle.std.specs.Prelude.{Result, MatchResult, slice_index_or}
use Rattle.font_tables.specs.Fields.{glyph_count_of}
use Rattle.font_tables.specs.Metrics.{metric_of}
use Rattle.font_file.specs.Font.{font_fault, map_of}
use Rattle.fontcut_c.specs.Answers.{IsInRoom, size_answer, unknown_request}
use Rattle.fontcut_c.specs.declared.answer.Answer.{Answer}
use Rattle.fontcut_c.specs.declared.glyph_metrics.Metric.{Metric}
use Rattle.fontcut_c.specs.declared.refusal.Refusal.{Refusal}
use Rattle.fontcut_c.specs.declared.refusal.Refusal.TheVariants.{Font, NoGlyph, SmallRoom}

-- the glyphs to which a font maps codes, in the order of the codes, 0 where it maps one to none
abbrev pub glyphs_of_codes : List ℕ → List ℕ → List ℕ
glyphs_of_codes font codes = map (map_of font) codes

-- an advance width and a left side bearing, as they are written
abbrev pub as_metric : ℕ × ℤ → Metric
as_metric pair = record { advance = pair.0; bearing = pair.1 }

-- the metrics of a glyph of a font
abbrev pub written_metric : List ℕ → ℕ → Metric
written_metric font glyph = as_metric (metric_of font glyph)

-- the metrics of glyphs of a font, in the order of the glyphs
abbrev pub metrics_of : List ℕ → List ℕ → List Metric
metrics_of font glyphs = map (written_metric font) glyphs

-- the number at an index is no glyph of a font
abbrev pub IsNoGlyphAt : List ℕ → List ℕ → ℕ → Type 0
IsNoGlyphAt font glyphs k = glyph_count_of font ≤ slice_index_or glyphs k 0

-- each number below an index is a glyph of a font
abbrev pub AreGlyphsTo : List ℕ → List ℕ → ℕ → Type 0
AreGlyphsTo font glyphs n = (k : ℕ) → k < n → slice_index_or glyphs k 0 < glyph_count_of font

-- all numbers are glyphs of a font
abbrev pub AreGlyphs : List ℕ → List ℕ → Type 0
AreGlyphs font glyphs = AreGlyphsTo font glyphs (length glyphs)

-- the first number that is no glyph of a font
pub record IsFirstNoGlyph (font glyphs : List ℕ) (k : ℕ) : Type 0 where
  pub below : k < length glyphs
  pub none : IsNoGlyphAt font glyphs k
  pub before : AreGlyphsTo font glyphs k

-- the glyphs of codes are in the room
pub record AreGlyphsInRoom (font codes old new : List ℕ) (size : ℕ) : Type 0 where
  pub accepted : font_fault font ≡ None
  pub written : IsInRoom (glyphs_of_codes font codes) old new size

-- why they are not written: the font, and then the room
abbrev pub RefusesGlyphs : List ℕ → List ℕ → ℕ → Refusal → Type 0
RefusesGlyphs font codes room (Font error) = font_fault font ≡ Some error
RefusesGlyphs font codes room (SmallRoom size) =
    (font_fault font ≡ None) × (size ≡ length codes) × (room < size)
RefusesGlyphs font codes room _ = ⊥

-- the metrics of glyphs are in the room
pub record AreMetricsInRoom (font glyphs : List ℕ) (old new : List Metric) (size : ℕ) : Type 0 where
  pub accepted : font_fault font ≡ None
  pub known : AreGlyphs font glyphs
  pub written : IsInRoom (metrics_of font glyphs) old new size

-- why they are not written: the font, then the first number that is none of its glyphs, and then the room
abbrev pub RefusesMetrics : List ℕ → List ℕ → ℕ → Refusal → Type 0
RefusesMetrics font glyphs room (Font error) = font_fault font ≡ Some error
RefusesMetrics font glyphs room (NoGlyph index) = (font_fault font ≡ None) × IsFirstNoGlyph font glyphs index
RefusesMetrics font glyphs room (SmallRoom size) =
    (font_fault font ≡ None) × AreGlyphs font glyphs × (size ≡ length glyphs) × (room < size)
RefusesMetrics font glyphs room _ = ⊥

-- what `fontcut_glyphs` answers: a refusal leaves the room as it was
pub record AnswersGlyphs (font codes old new : List ℕ) (answer : Answer) : Type 0 where
  pub outcome : Result ℕ Refusal
  pub told : answer ≡ size_answer outcome
  pub holds : MatchResult outcome (AreGlyphsInRoom font codes old new)
      (λ refusal. (new ≡ old) × RefusesGlyphs font codes (length old) refusal)

-- what `fontcut_metrics` answers: a refusal leaves the room as it was
pub record AnswersMetrics (font glyphs : List ℕ) (old new : List Metric) (answer : Answer) : Type 0 where
  pub outcome : Result ℕ Refusal
  pub told : answer ≡ size_answer outcome
  pub holds : MatchResult outcome (AreMetricsInRoom font glyphs old new)
      (λ refusal. (new ≡ old) × RefusesMetrics font glyphs (length old) refusal)

-- a sum of flags is one that a look-up takes: none, or that of a font that was accepted before
abbrev pub is_of_look_up : ℕ → Bool
is_of_look_up flags = nat_eq flags 0 || nat_eq flags 2

-- what a look-up answers that is given flags: what it says, or that it does not know them
pub record AnswersLookUp (flags : ℕ) (answer : Answer) (says : Type 0) : Type 0 where
  pub known : is_of_look_up flags ≡ true → says
  pub unknown : is_of_look_up flags ≡ false → answer ≡ unknown_request
