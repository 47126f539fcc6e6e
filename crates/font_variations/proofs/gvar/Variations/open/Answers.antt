use Rattle.std.proofs.Common.{Some, sym, ap, ◌∙◌, ℕ, drop}
use Rattle.font_variations.proofs.GvarLemmas.{has_shared_tuples}
use Rattle.font_variations.proofs.gvar.Variations.open.Goals as goal

pub shared_tuples_within-requires-clause-whole : goal.shared_tuples_within-requires-clause-whole
shared_tuples_within-requires-clause-whole c =
    has_shared_tuples c.args.gvar.now (Some c.unwrap_or.result.now) c.args.glyphs (sym c.is_bad_table.ensures
    ∙ c.if-is_bad_table.false)

pub invariant_of-result : goal.invariant_of-result
invariant_of-result c = record {
  offsets_is = c.rest_from.ensures;
  array_is = c.rest_from-2.ensures ∙ ap (λ (n : ℕ). drop n c.args.gvar.now) c.read_data_array_offset.ensures;
  shared_is = c.shared_tuples_within.ensures;
  form_is = c.read_form.ensures;
  sound = record {
    fvar = Some c.unwrap_or.result.now;
    accepted = sym c.is_bad_table.ensures ∙ c.if-is_bad_table.false;
  };
}
