use Rattle.std.proofs.Common.{ℕ, ◌≤◌, List, length, subst, sym, ◌∙◌}
use Rattle.sfnt_bytes.specs.declared.directory.TheConstants.{MAX_FILE}
use Rattle.font_theory.proofs.FontLemmas.{size-accepted}
use Rattle.font_subset.proofs.cut_forms.file_of.Goals as goal

pub returns-clause-small : goal.returns-clause-small
returns-clause-small c =
    subst (λ (b : List ℕ). length b ≤ MAX_FILE) (sym (c.file.ensures.file ∙ c.directory.ensures.directory
    ∙ c.tables.ensures.tables)) (size-accepted c.args.font.now c.recall_accepted.ensures)
