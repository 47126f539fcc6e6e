use Rattle.table_tests.proofs.ToyLemmas.{count_alone}
use Rattle.table_tests.proofs.parted_toys.ToysAloneTablesBySlot.glyph_count.Goals as goal

pub returns : goal.returns
returns c = count_alone c.args.self.now.toys.now
