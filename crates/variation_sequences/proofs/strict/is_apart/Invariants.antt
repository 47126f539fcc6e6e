use Rattle.std.proofs.Common.{◌≡◌, ◌-◌, not}
use Rattle.std.specs.List.{list_all, range_with_len}
use Rattle.std.specs.Option.{is_some}
use Rattle.variation_sequences.specs.Format14.{list_count, mapping_code}
use Rattle.variation_sequences.specs.Strict.{is_apart, range_with}
use Rattle.variation_sequences.proofs.strict.is_apart.Given as goal

abbrev pub invariant-loop-j : goal.invariant-loop-j
invariant-loop-j l =
    list_all (λ j. not (is_some (range_with l.ranges (mapping_code l.mappings j))))
    (range_with_len l.j (list_count l.mappings - l.j)) ≡ is_apart l.ranges l.mappings
