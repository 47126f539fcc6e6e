use Rattle.colour_writers.proofs.PickedLemmas.{read_picked}
use Rattle.colour_writers.proofs.writers.write_paints.Goals as goal

pub write_table-requires-clause-read : goal.write_table-requires-clause-read
write_table-requires-clause-read g c =
    read_picked (g.S.Sides.side c.args.sides.now) c.count.result c.args.one.now.1 c.args.other.now.1 c.args.one.now.0
    c.args.other.now.0 c.count.ensures c.requires.count
