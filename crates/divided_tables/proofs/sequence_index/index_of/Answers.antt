use Rattle.std.proofs.Common.{ℕ, List, subst}
use Rattle.std.specs.List.Sorted.{IsPermutation}
use Rattle.std.proofs.lemmas.List.Sorted.{IsNonDecreasingBy-from_sort}
use Rattle.divided_tables.proofs.sequence_index.index_of.Goals as goal

pub returns-clause-keys : goal.returns-clause-keys
returns-clause-keys g c = record {
  order = IsNonDecreasingBy-from_sort (λ k. k) c.sort_unstable.new.self.items c.sort_unstable.ensures.sorted;
  same = subst (λ (keys : List ℕ). IsPermutation keys c.sort_unstable.new.self.items) c.in_ok-keys.ensures.keys
      c.sort_unstable.ensures.permutation;
}
