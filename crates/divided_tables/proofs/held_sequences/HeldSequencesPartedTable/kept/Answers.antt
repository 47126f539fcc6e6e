use Rattle.std.proofs.Common.{sym, ap, ◌∙◌}
use Rattle.std.specs.Option.{option_map}
use Rattle.divided_tables.specs.HeldSequences.{OpenTable}
use Rattle.divided_tables.proofs.HeldSequenceLemmas.{kept_as, kept_none}
use Rattle.divided_tables.proofs.MadeLemmas.{ok_as}
use Rattle.divided_tables.proofs.held_sequences.HeldSequencesPartedTable.kept.Goals as goal

pub returns-in-Some-clause-table : goal.returns-in-Some-clause-table
returns-in-Some-clause-table g c =
    ok_as c.kept.result (λ o. kept_as (g.S.Source.content_of c.args.source.now) _) c.kept.ensures.table

pub returns-in-None-clause-table : goal.returns-in-None-clause-table
returns-in-None-clause-table g c =
    kept_none (g.S.Source.content_of c.args.source.now) c.args.self.now c.requires.opened
    (sym (ap (λ (o : OpenTable). o.held) c.self.view_is) ∙ ap (option_map _) c.in-None.is)
