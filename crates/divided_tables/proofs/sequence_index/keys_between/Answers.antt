use Rattle.divided_tables.proofs.SequenceKeyLemmas.{between_points}
use Rattle.divided_tables.proofs.sequence_index.keys_between.Goals as goal

pub returns : goal.returns
returns c =
    between_points c.args.from c.args.to c.args.keys.now c.requires.some c.key_from.result c.key_from-2.result
    c.key_from.ensures c.key_from-2.ensures c.count_below-first.result c.count_below-end.result
    c.count_below-first.ensures.point c.count_below-end.ensures.point
