use Rattle.std.proofs.Common.{◌∙◌, Some, ap, true, false, sym}
use Rattle.font_subset.proofs.ClosingRefusalLemmas.{closing_of_variable, closing_refused, inside_of_variable}
use Rattle.font_subset.proofs.font_to_cut.first_refusal.Goals as goal

pub has_bad_gsub-requires : goal.has_bad_gsub-requires
has_bad_gsub-requires c =
    inside_of_variable c.args.kind c.args.font.now c.recall_accepted.ensures
    (c.requires ∙ ap Some c.in-BadVariations.is)

pub returns-then-has_bad_gsub : goal.returns-then-has_bad_gsub
returns-then-has_bad_gsub c =
    closing_of_variable c.args.kind c.args.font.now c.recall_accepted.ensures
    (c.requires ∙ ap Some c.in-BadVariations.is) true (sym c.if-has_bad_gsub.true ∙ c.has_bad_gsub.ensures)

pub returns-else-has_bad_gsub : goal.returns-else-has_bad_gsub
returns-else-has_bad_gsub c =
    closing_of_variable c.args.kind c.args.font.now c.recall_accepted.ensures
    (c.requires ∙ ap Some c.in-BadVariations.is) false (sym c.if-has_bad_gsub.false ∙ c.has_bad_gsub.ensures)

pub returns-in_default : goal.returns-in_default
returns-in_default c =
    closing_refused c.args.kind c.args.font.now c.args.error c.requires c.in_default.not-BadVariations
