-- The header and this number of records are made.
use Rattle.commands.proofs.DropLemmas.{IsAlong}
use Rattle.commands.proofs.drop_tables.with_blanks.Given as goal

abbrev pub invariant-loop-k : goal.invariant-loop-k
invariant-loop-k g l = IsAlong l.tags l.file l.count l.made.items l.k
