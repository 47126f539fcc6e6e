-- The components of a glyph record (OpenType 1.9, glyf, Glyph Headers and Composite Glyph Description).
use Rattle.std.specs.Prelude.{◌≡◌, ℕ, zero, suc, ◌<◌, ◌≤◌, true, false, nat_eq, nat_lt, if◌then◌else◌, List, [], ◌∷◌}
use Rattle.std.specs.Prelude.{All, drop, length, map, slice_index, Option, Some, None}
use Rattle.std.specs.Option.{option_map, unwrap_or}
use Rattle.font_glyph.specs.Component.{StartsWith, component_size, first_component, has_more}
use Rattle.font_glyph.specs.declared.component.Component.{Component}

-- the bytes begin with the components, all of which are there; all but the last say that another follows
abbrev pub Chain : List ℕ → List Component → Type 0
Chain bytes [] = ⊥
Chain bytes (c ∷ []) = StartsWith bytes c × (has_more c.flags ≡ false)
Chain bytes (c ∷ d ∷ rest) =
    StartsWith bytes c × (has_more c.flags ≡ true) × Chain (drop (component_size c.flags) bytes) (d ∷ rest)

-- ten bytes of header, with numberOfContours not below 0
abbrev pub IsSimple : List ℕ → Type 0
IsSimple b = (10 ≤ length b) × (slice_index b 0 < 0x80)

-- ten bytes of header, with numberOfContours below 0
abbrev pub IsComposite : List ℕ → Type 0
IsComposite b = (10 ≤ length b) × (0x80 ≤ slice_index b 0)

-- the record b has the list of components: none where it is empty or simple, and a chain after the header of
-- a composite
pub data ComponentList (b : List ℕ) (list : List Component) : Type 0 where
  Empty : b ≡ [] → list ≡ [] → ComponentList b list
  Simple : IsSimple b → list ≡ [] → ComponentList b list
  Composite : IsComposite b → Chain (drop 10 b) list → ComponentList b list

-- the record has some list of components
unfoldable pub HasList : List ℕ → Type 0
HasList b = (list : List Component) × ComponentList b list

-- the record has a list of components, all of them glyphs below a count
unfoldable pub IsRecord : ℕ → List ℕ → Type 0
IsRecord count b =
    (list : List Component) × ComponentList b list × All (λ component. component.glyph < count) list

-- the bytes begin with some components
abbrev pub HasChain : List ℕ → Type 0
HasChain bytes = (list : List Component) × Chain bytes list

-- the bytes begin with components, all of them glyphs below a count
abbrev pub IsChain : ℕ → List ℕ → Type 0
IsChain count bytes =
    (list : List Component) × Chain bytes list × All (λ component. component.glyph < count) list

-- the glyphs of components
abbrev pub glyphs_of : List Component → List ℕ
glyphs_of list = map (λ component. component.glyph) list

-- the components that bytes begin with, which are n at most
unfoldable pub chain_of : ℕ → List ℕ → Option (List Component)
chain_of zero bytes = None
chain_of (suc n) bytes =
    let c = first_component bytes in
    if nat_lt (length bytes) (component_size c.flags) then None
    else if has_more c.flags then
    option_map (λ rest. c ∷ rest) (chain_of n (drop (component_size c.flags) bytes))
    else Some (c ∷ [])

-- the components that bytes begin with, where they do
abbrev pub chain_in : List ℕ → List Component
chain_in bytes = unwrap_or (chain_of (length bytes) bytes) []

-- the components of a record, where it has a list of them
unfoldable pub components_of : List ℕ → Option (List Component)
components_of b =
    if nat_eq (length b) 0 then Some []
    else if nat_lt (length b) 10 then None
    else if nat_lt (slice_index b 0) 0x80 then Some []
    else chain_of (length b) (drop 10 b)
