use Rattle.std.proofs.Common.{refl}
use Rattle.font_theory.specs.Kinds.{format_of}
use Rattle.font_subset.proofs.CutLemmas.{passed_on}
use Rattle.font_join.proofs.join_list.send_in_turn.Goals as goal

pub returns-in_err-first-clause-stops : goal.returns-in_err-first-clause-stops
returns-in_err-first-clause-stops g c = passed_on _ _ c.from_residual.result _ c.from_residual.ensures.1 (
  refl,
  c.in_err-first.ensures.exact (format_of c.args.kind),
)
