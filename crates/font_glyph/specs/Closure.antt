-- What a visit of some glyphs does to marks and to the work, this project's own.
use Rattle.std.specs.Prelude.{ℕ, Bool, true, List, [], ◌∷◌, ◌++◌, slice_set, if◌then◌else◌}
use Rattle.font_glyph.specs.Marks.{has}

-- the marks, once these glyphs are marked
abbrev pub marks_after : List ℕ → List Bool → List Bool
marks_after [] marks = marks
marks_after (g ∷ gs) marks = marks_after gs (slice_set marks g true)

-- the work, once each of these glyphs that has no mark is put at its end and marked
abbrev pub work_after : List ℕ → List Bool → List ℕ → List ℕ
work_after [] marks work = work
work_after (g ∷ gs) marks work =
    if has marks g then work_after gs marks work else work_after gs (slice_set marks g true) (work ++ g ∷ [])
