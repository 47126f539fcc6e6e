-- The glyphs that may stand for others (OpenType 1.9, GSUB), and what is refused, this project's own.
use Rattle.std.specs.Prelude.{ℕ, ◌+◌, nat_eq, nat_lt, Bool, true, false, ◌&&◌, ◌||◌, List, [], ◌∷◌, filter, map}
use Rattle.std.specs.List.{list_any}
use Rattle.std.specs.Option.{is_none}
use Rattle.font_layout.specs.Steps.{lookup_list, steps_in}
use Rattle.font_layout.specs.declared.layout.TheConstants.{STEP_LIMIT}
use Rattle.font_layout.specs.declared.step.Link.{Link}
use Rattle.font_layout.specs.declared.step.Step.{Step}
use Rattle.font_layout.specs.declared.step.Step.TheVariants.{Part, Leads, Fault}

-- a step at which something does not lie within the table, or is unknown
abbrev pub is_fault : Step → Bool
is_fault (Part n) = false
is_fault (Leads link) = false
is_fault Fault = true

-- how many steps are counted: one for each offset, item of a Coverage, covered glyph and link
abbrev pub step_count : List Step → ℕ
step_count [] = 0
step_count (Part n ∷ steps) = n + step_count steps
step_count (Leads link ∷ steps) = 1 + step_count steps
step_count (Fault ∷ steps) = step_count steps

-- a table is refused: it has no header or no whole list of lookups, a fault, or more steps than the limit
unfoldable pub is_bad_layout : List ℕ → Bool
is_bad_layout table =
    is_none (lookup_list table) || list_any is_fault (steps_in table)
    || nat_lt STEP_LIMIT (step_count (steps_in table))

-- the links among steps
abbrev pub links_among : List Step → List Link
links_among [] = []
links_among (Part n ∷ steps) = links_among steps
links_among (Leads link ∷ steps) = link ∷ links_among steps
links_among (Fault ∷ steps) = links_among steps

-- all links of a table, as they are listed
unfoldable pub links_in : List ℕ → List Link
links_in table = links_among (steps_in table)

-- both ends of a link are below the number of glyphs
abbrev pub is_of_glyphs : ℕ → Link → Bool
is_of_glyphs glyphs link = nat_lt link.from glyphs && nat_lt link.to glyphs

-- the links among the glyphs below a count
unfoldable pub kept_in : List ℕ → ℕ → List Link
kept_in table glyphs = filter (is_of_glyphs glyphs) (links_in table)

-- where links lead to from a glyph
abbrev pub leads_from : List Link → ℕ → List ℕ
leads_from links g = map (λ link. link.to) (filter (λ link. nat_eq link.from g) links)

-- the glyphs below a count that a glyph leads to, as they are listed
unfoldable pub leads_of : List ℕ → ℕ → ℕ → List ℕ
leads_of table glyphs g = leads_from (kept_in table glyphs) g

-- where links lead to from a glyph, over numbers of 16 bits
unfoldable pub links : List ℕ → ℕ → List ℕ
links table g = leads_of table 65536 g
