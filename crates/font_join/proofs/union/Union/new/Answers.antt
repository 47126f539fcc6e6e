use Rattle.std.proofs.Common.{◌∙◌}
use Rattle.std.proofs.lemmas.Result.{MatchResult-weaker}
use Rattle.font_join.proofs.AddLemmas.{both_whole}
use Rattle.font_join.proofs.union.Union.new.Goals as goal

pub returns-clause-exact : goal.returns-clause-exact
returns-clause-exact g c = MatchResult-weaker c.of_two.result c.of_two.ensures.exact (λ u h. (
  h.0 ∙ both_whole c.args.x.now c.args.y.now,
  h.1,
)) (λ e r. r)
