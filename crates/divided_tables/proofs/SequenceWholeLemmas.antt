-- The union of two tables that are open.
use Rattle.std.proofs.Common.{◌≡◌, ℕ, suc, ◌+◌, ◌<◌, ◌≤◌, ◌^◌, Bool, true, false, cond, eqb, ltb, List, [], ◌∷◌, length}
use Rattle.std.proofs.Common.{nat_lt, refl, ap, subst, sym, ◌∙◌, arith}
use Rattle.std.specs.List.{filter}
use Rattle.std.specs.List.Sorted.{IsNonDecreasingBy}
use Rattle.std.proofs.lemmas.Bool.{lt-ltb, ne_eqb}
use Rattle.variation_sequences.specs.Pairs.{part_of}
use Rattle.variation_sequences.specs.declared.variant.Pair.{Pair}
use Rattle.font_theory.specs.SequenceTable.{MAX_PAIRS, pairs_of_parts, sequence_table, sequences_in}
use Rattle.sequence_parts.specs.Clashes.{either_part}
use Rattle.font_theory.proofs.OrderLemmas.{filter_few}
use Rattle.font_theory.proofs.SequenceTableLemmas.{IsPairAmong, sequences_in-among}
use Rattle.divided_tables.specs.SequenceIndex.{AreIndexed, inserted, is_of, order_of, together, united_pairs}
use Rattle.divided_tables.specs.OpenSequences.{OpenSequences, parts_in}
use Rattle.divided_tables.proofs.SequenceAscentLemmas.{does_not_fall}
use Rattle.divided_tables.proofs.SequenceKeyLemmas.{among}
use Rattle.divided_tables.proofs.SequenceUnionLemmas.{rises_ascend, union_is}

-- pairs that are open are in order
pub in_order : (o : OpenSequences) (keys : List ℕ) → AreIndexed o keys → IsNonDecreasingBy order_of o.pairs
in_order o keys is =
    does_not_fall (IsPairAmong o.count) order_of 0 o.pairs (rises_ascend o.count is.small 0 o.pairs (among o keys is))

-- a part that is not empty is taken, and else another one
either_is : (a b : List ℕ) → cond (eqb (length a) 0) b a ≡ cond (nat_lt 0 (length a)) a b
either_is [] b = refl
either_is (x ∷ a) b =
    ap (λ t. cond t b (x ∷ a)) (ne_eqb (length (x ∷ a)) 0 (λ e. omega (arith, e)))
    ∙ sym (ap (λ t. cond t (x ∷ a) b) (lt-ltb 0 (length (x ∷ a)) (omega arith)))

abbrev pub has_part : OpenSequences → ℕ → Bool
has_part o g = nat_lt 0 (length ((parts_in o).part g))

pub union_of : (o w : OpenSequences) (keys others : List ℕ) → AreIndexed o keys → AreIndexed w others
    → o.count ≡ w.count
    → united_pairs (has_part o) o.pairs w.pairs
    ≡ pairs_of_parts o.count (either_part (parts_in o).part (parts_in w).part)
union_of o w keys others a b e =
    let n : ℕ = o.count in
    let t : List ℕ = a.table.0 in
    let u : List ℕ = b.table.0 in
    let second : w.pairs ≡ sequences_in n u = b.table.1 ∙ ap (λ (m : ℕ). sequences_in m u) (sym e) in
    subst (λ (both : List Pair × List Pair).
    united_pairs (λ g. nat_lt 0 (length (sequence_table (part_of both.0 g)))) both.0 both.1
    ≡ pairs_of_parts n
    (either_part (λ g. sequence_table (part_of both.0 g)) (λ g. sequence_table (part_of both.1 g))))
    (λ i. (sym a.table.1 i, sym second i))
    (sym (union_is n a.small t u (λ g. nat_lt 0 (length (sequence_table (part_of (sequences_in n t) g)))))
    ∙ (λ i. pairs_of_parts n (λ g. sym (either_is (sequence_table (part_of (sequences_in n t) g))
    (sequence_table (part_of (sequences_in n u) g))) i)))

-- no more pairs than there are
length_inserted : (p : Pair) (qs : List Pair) → length (inserted p qs) ≡ suc (length qs)
length_inserted p [] = refl
length_inserted p (q ∷ qs) = by_test (ltb (order_of q) (order_of p)) (length_inserted p qs)
  where
    by_test : (b : Bool) → length (inserted p qs) ≡ suc (length qs)
        → length (cond b (q ∷ inserted p qs) (p ∷ q ∷ qs)) ≡ suc (length (q ∷ qs))
    by_test true e = ap suc e
    by_test false e = refl

length_together : (ps qs : List Pair) → length (together ps qs) ≡ length ps + length qs
length_together [] qs = omega arith
length_together (p ∷ ps) qs = omega (arith, length_inserted p (together ps qs), length_together ps qs)

pub few_open : (o : OpenSequences) (keys : List ℕ) → AreIndexed o keys → length o.pairs ≤ 1048576
unfolding MAX_PAIRS
few_open o keys is =
    omega (arith, (sequences_in-among o.count is.table.0).1, ap (λ (l : List Pair). length l) is.table.1)

pub few_united : (c : ℕ → Bool) (o w : OpenSequences) (keys others : List ℕ) → AreIndexed o keys
    → AreIndexed w others → length (united_pairs c o.pairs w.pairs) < 2 ^ 32
unfolding united_pairs
few_united c o w keys others a b =
    omega (
      arith,
      length_together (filter (is_of c true) o.pairs) (filter (is_of c false) w.pairs),
      filter_few (is_of c true) o.pairs,
      filter_few (is_of c false) w.pairs,
      few_open o keys a,
      few_open w others b,
    )
