use Rattle.std.proofs.Common.{refl}
use Rattle.table_tests.proofs.ToyLemmas.{low_alone}
use Rattle.table_tests.proofs.parted_toys.is_same_toy.Goals as goal

pub is_same_part-requires : goal.is_same_part-requires
is_same_part-requires c = λ lifetimes. (
  (refl, tt),
  (low_alone c.args.first.now c.args.g c.requires, low_alone c.args.second.now c.args.g c.requires),
)
