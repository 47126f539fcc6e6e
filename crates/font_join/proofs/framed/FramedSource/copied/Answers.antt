use Rattle.std.proofs.Common.{ap, ◌∙◌}
use Rattle.font_theory.specs.Parting.{Tables}
use Rattle.divided_tables.proofs.MadeLemmas.{found_as, looked_up}
use Rattle.font_join.proofs.framed.FramedSource.copied.Goals as goal

pub returns-clause-table : goal.returns-clause-table
returns-clause-table g c =
    let copied : Tables = (g.S.Source.content_of c.args.self.now.source.now).copied in
    found_as (λ b. b.now) c.or_copied.result _
    (c.or_copied.ensures.table copied (looked_up (λ b. b.now) c.copied.result _ c.copied.ensures.table)
    ∙ ap (λ (t : Tables). t c.args.slot) c.args.self.now.are)
