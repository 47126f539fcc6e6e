-- Lists of pairs of selector and code in order, this project's own.
use Rattle.std.specs.Prelude.{ℕ, ◌+◌, ◌*◌, nat_eq, nat_lt, Bool, ◌&&◌, List, [], ◌∷◌, find, if◌then◌else◌, None, Option}
use Rattle.std.specs.Prelude.{Some}
use Rattle.std.specs.Option.{option_map_or}
use Rattle.codes.specs.declared.code_points.TheConstants.{CODES}
use Rattle.variation_sequences.specs.declared.variant.Pair.{Pair}

-- a pair has a selector and code
abbrev pub is_pair_of : ℕ → ℕ → Pair → Bool
is_pair_of v c p = nat_eq p.selector v && nat_eq p.code c

-- the glyph that pairs give a selector and code, 0 where they have none
abbrev pub glyph_in : List Pair → ℕ → ℕ → ℕ
glyph_in ps v c = option_map_or (λ p. p.glyph) (find (is_pair_of v c) ps) 0

-- the place of a pair in order of selector and code, which is below CODES
unfoldable pub place_of : Pair → ℕ
place_of p = CODES * p.selector + p.code

-- pairs in order, and another one at its place
unfoldable pub with_one : Pair → List Pair → List Pair
with_one p [] = p ∷ []
with_one p (q ∷ qs) = if nat_lt (place_of q) (place_of p) then q ∷ with_one p qs else p ∷ q ∷ qs

-- pairs in order, and others each at its place
abbrev pub merged : List Pair → List Pair → List Pair
merged [] qs = qs
merged (p ∷ ps) qs = with_one p (merged ps qs)

-- the first selector and code that pairs in order have twice
unfoldable pub first_twice : List Pair → Option (ℕ × ℕ)
first_twice [] = None
first_twice (p ∷ []) = None
first_twice (p ∷ q ∷ qs) =
    if nat_eq (place_of p) (place_of q) then Some (p.selector, p.code) else first_twice (q ∷ qs)
