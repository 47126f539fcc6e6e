use Rattle.std.proofs.Common.{subst, sym}
use Rattle.commands.specs.Belongs.{IsUnopened}
use Rattle.commands.proofs.BelongsLemmas.{not_opened}
use Rattle.commands.proofs.belongs.opened_for.Goals as goal

pub returns-in-Err-clause-exact : goal.returns-in-Err-clause-exact
returns-in-Err-clause-exact g c =
    subst (IsUnopened c.args.kind c.args.which c.args.font.now) (sym c.unopened.ensures)
    (not_opened c.args.kind c.args.which c.args.font.now c.in-Err.error c.in-Err.ensures.exact)
