use Rattle.font_theory.proofs.WritableLemmas.{IsWritable-closed}
use Rattle.font_theory.proofs.cuts.closed_is_writable.Goals as goal

pub returns : goal.returns
returns c = IsWritable-closed
