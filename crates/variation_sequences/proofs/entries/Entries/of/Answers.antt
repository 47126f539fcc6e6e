use Rattle.std.proofs.Common.{List, ap, ◌++◌}
use Rattle.variation_sequences.specs.Sequences.{entries_from_record, entries_of}
use Rattle.variation_sequences.specs.declared.variant.Entry.{Entry}
use Rattle.variation_sequences.proofs.entries.Entries.of.Goals as goal

pub returns : goal.returns
unfolding entries_of
returns c = ap (λ (xs : List Entry). xs ++ entries_from_record c.args.bytes.now 0) c.none.ensures
