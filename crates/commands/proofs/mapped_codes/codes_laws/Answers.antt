use Rattle.commands.proofs.CodesLemmas.{laws}
use Rattle.commands.proofs.mapped_codes.codes_laws.Goals as goal

pub returns : goal.returns
returns g m = laws m
