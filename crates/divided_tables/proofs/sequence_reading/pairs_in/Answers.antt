use Rattle.std.proofs.Common.{sym, ◌∙◌}
use Rattle.font_theory.proofs.SequenceTableLemmas.{is_read-strict}
use Rattle.divided_tables.proofs.sequence_reading.pairs_in.Goals as goal

pub of-requires : goal.of-requires
of-requires g c = is_read-strict c.args.bytes.now (sym c.is_read.ensures ∙ c.if-not-is_read.false)
