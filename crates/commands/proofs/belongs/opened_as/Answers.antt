use Rattle.commands.proofs.BelongsLemmas.{no_font}
use Rattle.commands.proofs.belongs.opened_as.Goals as goal

pub returns-in-Err-clause-exact : goal.returns-in-Err-clause-exact
returns-in-Err-clause-exact c = λ kind. no_font kind c.args.which c.args.file.now c.in-Err.error c.in-Err.ensures
