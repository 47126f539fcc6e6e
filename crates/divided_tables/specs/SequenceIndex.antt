-- Words of private contracts and of proofs: no public clause names them.
use Rattle.std.specs.Prelude.{◌≡◌, ℕ, ◌+◌, ◌*◌, ◌≤◌, nat_eq, nat_le, nat_lt, not, Bool, true, false, ◌&&◌}
use Rattle.std.specs.Prelude.{List, [], ◌∷◌}
use Rattle.std.specs.Prelude.{filter, if◌then◌else◌, length, map, None, Option, Some}
use Rattle.std.specs.List.Sorted.{IsNonDecreasing, IsPermutation}
use Rattle.codes.specs.declared.code_points.TheConstants.{CODES}
use Rattle.variation_sequences.specs.declared.variant.Pair.{Pair}
use Rattle.font_theory.specs.OrderedPairs.{place_of}
use Rattle.font_theory.specs.SequenceTable.{sequences_in}
use Rattle.divided_tables.specs.OpenSequences.{OpenSequences}

-- the least key of a glyph: how many selectors and codes there are, so many times
abbrev pub key_from : ℕ → ℕ
key_from g = g * (CODES * CODES)

-- a pair as a number, by its glyph, then its selector, then its code
unfoldable pub key_of : Pair → ℕ
key_of p = key_from p.glyph + (CODES * p.selector + p.code)

-- a key is one of some glyphs, from one on and below another
abbrev pub is_between : ℕ → ℕ → ℕ → Bool
is_between from to k = nat_le (key_from from) k && nat_lt k (key_from to)

-- the keys of some glyphs
abbrev pub keys_between : ℕ → ℕ → List ℕ → List ℕ
keys_between from to keys = filter (is_between from to) keys

-- numbers are the keys of pairs, in order
pub record AreKeysOf (pairs : List Pair) (keys : List ℕ) : Type 0 where
  pub order : IsNonDecreasing keys
  pub same : IsPermutation (map key_of pairs) keys

-- sequences that are open are those of some table, and beside them stand their keys
pub record AreIndexed (o : OpenSequences) (keys : List ℕ) : Type 0 where
  pub small : o.count ≤ 65536
  pub table : (t : List ℕ) × (o.pairs ≡ sequences_in o.count t)
  pub index : AreKeysOf o.pairs keys

-- the order of unions: by selector and code, then by glyph
unfoldable pub order_of : Pair → ℕ
order_of p = place_of p * 65536 + p.glyph

-- pairs in order, and another one at its place
abbrev pub inserted : Pair → List Pair → List Pair
inserted p [] = p ∷ []
inserted p (q ∷ qs) = if nat_lt (order_of q) (order_of p) then q ∷ inserted p qs else p ∷ q ∷ qs

-- pairs in order, and others each at its place
abbrev pub together : List Pair → List Pair → List Pair
together [] qs = qs
together (p ∷ ps) qs = inserted p (together ps qs)

-- the glyph of a pair is one of the first of two tables, or it is one of the second
abbrev pub is_of : (ℕ → Bool) → Bool → Pair → Bool
is_of of_first first p = if first then of_first p.glyph else not (of_first p.glyph)

-- the pairs of a union: those of the first for its glyphs, and those of the second for the others
unfoldable pub united_pairs : (ℕ → Bool) → List Pair → List Pair → List Pair
united_pairs of_first ps qs = together (filter (is_of of_first true) ps) (filter (is_of of_first false) qs)

-- the first of two lists has the next pair: both are empty, or else the second is, or its pair comes no earlier
abbrev pub IsFirstOf : List Pair → List Pair → Bool → Type 0
IsFirstOf [] qs b = b ≡ nat_eq (length qs) 0
IsFirstOf (p ∷ ps) [] b = b ≡ true
IsFirstOf (p ∷ ps) (q ∷ qs) b = b ≡ nat_le (order_of p) (order_of q)

-- the selector and code of a pair, where that after it has its place
abbrev pub clash_of : Option Pair → Pair → Option (ℕ × ℕ)
clash_of None p = None
clash_of (Some q) p = if nat_eq (place_of q) (place_of p) then Some (q.selector, q.code) else None

-- pairs in order after another one, if any
abbrev pub after : Option Pair → List Pair → List Pair
after None ps = ps
after (Some p) ps = p ∷ ps
