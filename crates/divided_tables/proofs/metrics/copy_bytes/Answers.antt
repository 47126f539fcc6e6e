use Rattle.std.proofs.Common.{◌+◌, ◌-◌, arith}
use Rattle.divided_tables.proofs.FilledLemmas.{copied_part}
use Rattle.divided_tables.proofs.metrics.copy_bytes.Goals as goal

pub returns : goal.returns
returns c =
    copied_part c.args.from.now c.args.to.now c.copy_from_slice.new.self c.args.at c.args.size (c.args.at + c.args.size
    - c.args.at) (omega arith) c.requires.room c.requires.same
    c.copy_from_slice.ensures.after
