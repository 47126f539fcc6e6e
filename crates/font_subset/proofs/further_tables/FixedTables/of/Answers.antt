use Rattle.std.proofs.Common.{◌∙◌, refl, sym}
use Rattle.sfnt_bytes.specs.declared.tag.TheConstants.{BASE, GDEF, GPOS, GSUB, KERN}
use Rattle.font_subset.proofs.FurtherTableLemmas.{layout_table}
use Rattle.font_subset.proofs.further_tables.FixedTables.of.Goals as goal

pub invariant_of-result : goal.invariant_of-result
invariant_of-result g c = record {
  base_is = c.in_ok-base.ensures.table ∙ sym (layout_table c.args.font.now BASE refl);
  gdef_is = c.in_ok-gdef.ensures.table ∙ sym (layout_table c.args.font.now GDEF refl);
  gpos_is = c.in_ok-gpos.ensures.table ∙ sym (layout_table c.args.font.now GPOS refl);
  gsub_is = c.in_ok-gsub.ensures.table ∙ sym (layout_table c.args.font.now GSUB refl);
  kern_is = c.in_ok-kern.ensures.table ∙ sym (layout_table c.args.font.now KERN refl);
}
