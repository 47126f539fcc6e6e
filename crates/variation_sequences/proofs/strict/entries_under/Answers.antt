use Rattle.std.proofs.Common.{ap, arith}
use Rattle.variation_sequences.specs.Format14.{default_ranges, list_count}
use Rattle.variation_sequences.specs.Strict.{entries_under}
use Rattle.variation_sequences.proofs.StrictLemmas.{codes_least}
use Rattle.variation_sequences.proofs.strict.entries_under.Goals as goal

pub returns-then-most-count_list : goal.returns-then-most-count_list
unfolding entries_under
returns-then-most-count_list c =
    omega (
      arith,
      codes_least (default_ranges c.args.s.now c.args.k),
      ap list_count c.ranges_of-ranges.ensures,
      ap list_count c.mappings_of.ensures,
    )
