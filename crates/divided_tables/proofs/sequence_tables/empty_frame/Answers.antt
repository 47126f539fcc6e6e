use Rattle.divided_tables.proofs.MadeSequenceLemmas.{frame_none, frame_some}
use Rattle.divided_tables.proofs.sequence_tables.empty_frame.Goals as goal

pub returns-in-None-clause-table : goal.returns-in-None-clause-table
returns-in-None-clause-table g c =
    frame_none (g.S.Source.content_of c.args.source.now).copied c.args.slot c.in-None.ensures.table

pub returns-in_ok-bytes-in-Some-clause-table : goal.returns-in_ok-bytes-in-Some-clause-table
returns-in_ok-bytes-in-Some-clause-table g c =
    frame_some (g.S.Source.content_of c.args.source.now).copied c.args.slot _ _ c.in-Some.ensures.table
    c.in_ok-bytes-in-Some.ensures.empty
