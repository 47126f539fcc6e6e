-- The texts and numbers of refusals, this project's own.
use Rattle.std.specs.Prelude.{ℕ, List, codes}
use Rattle.font_map.specs.declared.mapping.MapError.{MapError}
use Rattle.font_map.specs.declared.mapping.MapError.TheVariants.{NoMapping, BadCmap}

-- the text of a refusal of a `cmap`
abbrev pub map_error_text : MapError → List ℕ
map_error_text NoMapping = codes "no mapping"
map_error_text BadCmap = codes "bad cmap"

-- its number
abbrev pub map_error_number : MapError → ℕ
map_error_number NoMapping = 13
map_error_number BadCmap = 14
