use Rattle.std.proofs.Common.{◌≡◌, ℕ, List, false, arith, subst, sym, ap, ◌∙◌}
use Rattle.std.proofs.lemmas.Grind.{common_steps}
use Rattle.sfnt_bytes.specs.Directory.{slot_tag, table_entry, table_of}
use Rattle.sfnt_bytes.specs.Refusals.{is_outside}
use Rattle.sfnt_bytes.proofs.RefusalLemmas.{is_readable, table_is_within}
use Rattle.sfnt_bytes.proofs.directory.Directory.table_in.Goals as goal

pub find_entry-requires : goal.find_entry-requires
find_entry-requires c = (is_readable _ c.self.invariant).records

pub returns-in_err-entry : goal.returns-in_err-entry
unfolding table_of
returns-in_err-entry c = grind (arith, common_steps)

pub slice_bounds-result-end : goal.slice_bounds-result-end
slice_bounds-result-end c =
    let file = c.self.inside.file.now in
    let inside : is_outside file (slot_tag c.args.slot) ≡ false =
    subst (λ (f : List ℕ). is_outside f (slot_tag c.args.slot) ≡ false) (sym c.self.view_is) c.requires.inside in
    let entry = ap (table_entry file) (sym c.tag_of.ensures) ∙ sym c.find_entry.ensures ∙ c.in_ok-entry.was in
    let within = table_is_within file _ c.in_ok-entry.entry inside entry in
    omega arith

pub returns : goal.returns
unfolding table_of
returns c = grind (arith, common_steps)
