-- How long the tables are that nothing refuses, of which fields are read.
use Rattle.std.proofs.Common.{◌≡◌, ℕ, ◌≤◌, List, length, None, sym, ap, subst, ◌∙◌}
use Rattle.std.proofs.lemmas.Bool.{ltb-false, or_parts}
use Rattle.sfnt_bytes.specs.Directory.{kept_tag}
use Rattle.sfnt_bytes.proofs.LineLemmas.{first_of_lines-none_at, when-none}
use Rattle.font_tables.specs.Refusals.{table_fault, table_lines}
use Rattle.font_tables.specs.Tables.{head_of, hhea_of, maxp_of, table_or_empty}
use Rattle.font_tables.specs.declared.tables.TableError.TheVariants.{BadHead, BadHhea, BadMaxp}
use Rattle.font_tables.proofs.SlotLemmas.{are_slots}

module _ (file bytes : List ℕ) where
  head_is_long : table_fault file ≡ None → 54 ≤ length (head_of file)
  unfolding table_fault
  head_is_long sound =
      ltb-false _ _ (or_parts _ _
      (or_parts _ _ (when-none _ BadHead (first_of_lines-none_at (table_lines file) 1 sound))).0).0

  pub head_has : bytes ≡ table_or_empty file (kept_tag 6) → table_fault file ≡ None → 54 ≤ length bytes
  head_has is sound = subst (λ (b : List ℕ). 54 ≤ length b) (sym (is ∙ ap (table_or_empty file) are_slots.head))
      (head_is_long sound)

  maxp_is_long : table_fault file ≡ None → 32 ≤ length (maxp_of file)
  unfolding table_fault
  maxp_is_long sound =
      ltb-false _ _ (or_parts _ _
      (or_parts _ _ (when-none _ BadMaxp (first_of_lines-none_at (table_lines file) 2 sound))).0).0

  pub maxp_has : bytes ≡ table_or_empty file (kept_tag 10) → table_fault file ≡ None → 32 ≤ length bytes
  maxp_has is sound = subst (λ (b : List ℕ). 32 ≤ length b) (sym (is ∙ ap (table_or_empty file) are_slots.maxp))
      (maxp_is_long sound)

  hhea_is_long : table_fault file ≡ None → 36 ≤ length (hhea_of file)
  unfolding table_fault
  hhea_is_long sound =
      ltb-false _ _ (or_parts _ _
      (or_parts _ _ (when-none _ BadHhea (first_of_lines-none_at (table_lines file) 3 sound))).0).0

  pub hhea_has : bytes ≡ table_or_empty file (kept_tag 7) → table_fault file ≡ None → 36 ≤ length bytes
  hhea_has is sound = subst (λ (b : List ℕ). 36 ≤ length b) (sym (is ∙ ap (table_or_empty file) are_slots.hhea))
      (hhea_is_long sound)
