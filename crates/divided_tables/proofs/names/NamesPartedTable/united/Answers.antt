use Rattle.sfnt_bytes.specs.declared.tag.TheConstants.{POST}
use Rattle.divided_tables.proofs.EitherLemmas.{names_united}
use Rattle.divided_tables.proofs.names.NamesPartedTable.united.Goals as goal

pub returns-clause-table : goal.returns-clause-table
returns-clause-table g c = names_united POST (g.K.Source.content_of c.args.first.now)
    (g.L.Source.content_of c.args.second.now)
