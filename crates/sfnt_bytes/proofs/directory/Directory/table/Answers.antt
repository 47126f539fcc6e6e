use Rattle.std.proofs.Common.{arith, sym, ◌∙◌}
use Rattle.std.proofs.lemmas.Grind.{common_steps}
use Rattle.sfnt_bytes.specs.Directory.{kept_tag, table_of}
use Rattle.sfnt_bytes.proofs.RefusalLemmas.{is_readable, kept_not_outside, table_is_within}
use Rattle.sfnt_bytes.proofs.directory.Directory.table.Goals as goal

pub find_entry-requires : goal.find_entry-requires
find_entry-requires c = (is_readable _ c.self.invariant).records

pub returns-in_err-entry : goal.returns-in_err-entry
unfolding table_of kept_tag
returns-in_err-entry c = grind (arith, common_steps)

pub slice_bounds-result-end : goal.slice_bounds-result-end
unfolding kept_tag
slice_bounds-result-end c =
    let file = c.self.inside.file.now in
    let inside = kept_not_outside file c.args.slot c.self.invariant c.requires in
    let within = table_is_within file _ c.in_ok-entry.entry inside (sym c.find_entry.ensures ∙ c.in_ok-entry.was) in
    omega arith

pub returns : goal.returns
unfolding table_of kept_tag
returns c = grind (arith, common_steps)
