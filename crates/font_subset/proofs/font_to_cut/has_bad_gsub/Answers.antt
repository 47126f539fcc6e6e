use Rattle.std.proofs.Common.{sym}
use Rattle.font_subset.proofs.ClosingRefusalLemmas.{bad_gsub_of, no_bad_gsub}
use Rattle.font_subset.proofs.font_to_cut.has_bad_gsub.Goals as goal

pub returns-in-Some : goal.returns-in-Some
returns-in-Some c = sym (bad_gsub_of c.args.font.now c.in-Some.gsub.now c.is_bad_gsub.result
    (sym c.in-Some.ensures.table) (sym c.is_bad_gsub.ensures))

pub returns-in-None : goal.returns-in-None
returns-in-None c = sym (no_bad_gsub c.args.font.now (sym c.in-None.ensures.table))
