-- Without subtables nothing becomes of glyphs.
use Rattle.std.proofs.Common.{ℕ, List}
use Rattle.substitutions.specs.Covered.{Covers}
use Rattle.substitutions.specs.Lookups.{IsListed}
use Rattle.substitutions.specs.Lookups.IsSubtable.{plain, extended}
use Rattle.substitutions.specs.Shaping.{Becomes}
use Rattle.substitutions.specs.Shaping.Becomes.{replaced, ligated}
use Rattle.substitutions.specs.Substitution.{FormsLigature, Replaces}
use Rattle.substitutions.specs.Substitution.Replaces.{by_delta, by_array, by_sequence, by_alternate, by_reverse}

module _ (table : List ℕ) (none : (kind at : ℕ) → IsListed table kind at → ⊥) where
  none_covered : {kind format at g i : ℕ} → Covers table kind format at g i → ⊥
  none_covered {kind = kind} {at = at} c = elim c.subtable [
    | plain l ↦ none kind at l
    | extended e ↦ none 7 e.from e.listed
  ]

  pub none_replaced : {g : ℕ} {outputs : List ℕ} → Replaces table g outputs → ⊥
  none_replaced (by_delta c is) = none_covered c
  none_replaced (by_array c few is) = none_covered c
  none_replaced (by_sequence c few to is) = none_covered c
  none_replaced (by_alternate k c few to low is) = none_covered c
  none_replaced (by_reverse count c end few is) = none_covered c

  pub none_formed : {g : ℕ} {others : List ℕ} {formed : ℕ} → FormsLigature table g others formed → ⊥
  none_formed l = none_covered l.covers

  pub none_becomes : {list next : List ℕ} → Becomes table list next → ⊥
  none_becomes (replaced before after r) = none_replaced r
  none_becomes (ligated before l w) = none_formed l
