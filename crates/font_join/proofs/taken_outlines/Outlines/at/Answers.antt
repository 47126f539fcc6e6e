use Rattle.font_join.specs.Union.{listed_outline}
use Rattle.font_join.proofs.OutlineListLemmas.{small_by}
use Rattle.font_join.proofs.taken_outlines.Outlines.at.Goals as goal

pub returns-clause-small : goal.returns-clause-small
returns-clause-small g c =
    small_by (λ b. b.now) c.kept_at.result (listed_outline c.args.self.now c.args.g) c.kept_at.ensures
    (c.bytes-bytes.ensures.small c.args.g)
