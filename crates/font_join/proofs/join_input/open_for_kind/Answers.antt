use Rattle.std.proofs.Common.{subst, sym}
use Rattle.font_theory.specs.Kinds.{format_of}
use Rattle.font_join.specs.Inside.{IsFormRefusal}
use Rattle.font_join.proofs.TurnLemmas.{unopened_refused}
use Rattle.font_join.proofs.join_input.open_for_kind.Goals as goal

pub returns-in-Err-clause-exact : goal.returns-in-Err-clause-exact
returns-in-Err-clause-exact g c =
    subst (IsFormRefusal (format_of c.args.kind) c.args.which c.args.font.now) (sym c.unopened.ensures)
    (unopened_refused c.args.kind c.args.which c.args.font.now c.in-Err.error c.in-Err.ensures.exact)
