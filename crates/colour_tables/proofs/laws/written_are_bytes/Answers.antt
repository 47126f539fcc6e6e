use Rattle.colour_tables.proofs.TableByteLemmas.{written_bytes}
use Rattle.colour_tables.proofs.laws.written_are_bytes.Goals as goal

pub returns : goal.returns
returns c = written_bytes
