use Rattle.std.proofs.Common.{◌∙◌, ap}
use Rattle.std.specs.Option.{option_map}
use Rattle.font_theory.specs.Parted.{thin_post}
use Rattle.divided_tables.proofs.MadeLemmas.{looked_up, ok_as}
use Rattle.divided_tables.proofs.NameLemmas.{names_framed}
use Rattle.divided_tables.proofs.names.NamesPartedTable.frame.Goals as goal

pub returns-clause-table : goal.returns-clause-table
returns-clause-table g c =
    let copied = (g.S.Source.content_of c.args.source.now).copied in
    ok_as c.post_frame.result (λ o e. e
    ∙ ap (option_map thin_post) (looked_up (λ b. b.now) c.copied.result _ c.copied.ensures.table)
    ∙ names_framed copied) c.post_frame.ensures.table
