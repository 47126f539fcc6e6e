-- Why a `cmap` is refused, this project's own: the lines in their order, each with its condition.
use Rattle.std.specs.Prelude.{Bool, false, List, [], ◌∷◌, ℕ, is_none, Option}
use Rattle.std.specs.Option.{option_map_or}
use Rattle.sfnt_bytes.specs.Lines.{when, first_of_lines}
use Rattle.font_map.specs.Cmap.{chosen_record, is_malformed, subtable_at}
use Rattle.font_map.specs.declared.mapping.MapError.{MapError}
use Rattle.font_map.specs.declared.mapping.MapError.TheVariants.{NoMapping, BadCmap}

-- the chosen subtable is malformed
abbrev pub is_bad : List ℕ → Bool
is_bad cmap = option_map_or (λ k. is_malformed (subtable_at cmap k)) (chosen_record cmap) false

-- the refusals
abbrev pub map_lines : List ℕ → List (Option MapError)
map_lines cmap =
    when (is_none (chosen_record cmap)) NoMapping
    ∷ when (is_bad cmap) BadCmap
    ∷ []

-- the first refusal that applies
unfoldable pub map_fault : List ℕ → Option MapError
map_fault cmap = first_of_lines (map_lines cmap)
