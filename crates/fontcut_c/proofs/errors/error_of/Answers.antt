use Rattle.std.proofs.Common.{rules, ◌≤◌, sym}
use Rattle.fontcut_c.proofs.ErrorLemmas.{no_error}
use Rattle.fontcut_c.proofs.errors.error_of.Goals as goal

pub returns-in_default : goal.returns-in_default
returns-in_default c =
    let large : 256 ≤ c.args.answer.status = search rules in
    sym (no_error c.args.answer large)
