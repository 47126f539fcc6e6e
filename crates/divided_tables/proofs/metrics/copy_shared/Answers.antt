use Rattle.divided_tables.proofs.FilledLemmas.{blank_is}
use Rattle.divided_tables.proofs.metrics.copy_shared.Goals as goal

pub returns : goal.returns
returns c =
    blank_is c.args.pairs c.args.count c.args.from.now c.args.to.now c.copy_bytes.new.to c.copy_bytes-2.new.to
    c.requires.some c.requires.few c.requires.room c.requires.zeros
    c.copy_bytes.ensures c.copy_bytes-2.ensures
