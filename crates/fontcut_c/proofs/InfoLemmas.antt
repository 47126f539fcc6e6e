-- What is known of `head` and `hhea` of a font that is accepted.
use Rattle.std.proofs.Common.{◌≡◌, ℕ, ◌≤◌, List, length, None, sym, ap, subst, ◌∙◌}
use Rattle.std.proofs.lemmas.Bool.{ltb-false, or_parts}
use Rattle.sfnt_bytes.specs.Directory.{kept_tag}
use Rattle.sfnt_bytes.proofs.LineLemmas.{first_of_lines-none_at, when-none}
use Rattle.font_tables.specs.Refusals.{table_fault, table_lines}
use Rattle.font_tables.specs.Tables.{head_of, hhea_of, table_or_empty}
use Rattle.font_tables.specs.declared.tables.TableError.TheVariants.{BadHead, BadHhea}
use Rattle.font_tables.proofs.SlotLemmas.{are_slots}

module _ (file bytes : List ℕ) where
  -- the table of the slot of `head` is `head`, and has as many bytes as it must have
  pub head_is : bytes ≡ table_or_empty file (kept_tag 6) → bytes ≡ head_of file
  head_is is = is ∙ ap (table_or_empty file) are_slots.head

  head_is_long : table_fault file ≡ None → 54 ≤ length (head_of file)
  unfolding table_fault
  head_is_long sound =
      ltb-false _ _ (or_parts _ _
      (or_parts _ _ (when-none _ BadHead (first_of_lines-none_at (table_lines file) 1 sound))).0).0

  pub head_has : bytes ≡ table_or_empty file (kept_tag 6) → table_fault file ≡ None → 54 ≤ length bytes
  head_has is sound = subst (λ (b : List ℕ). 54 ≤ length b) (sym (head_is is)) (head_is_long sound)

  -- the same of `hhea`
  pub hhea_is : bytes ≡ table_or_empty file (kept_tag 7) → bytes ≡ hhea_of file
  hhea_is is = is ∙ ap (table_or_empty file) are_slots.hhea

  hhea_is_long : table_fault file ≡ None → 36 ≤ length (hhea_of file)
  unfolding table_fault
  hhea_is_long sound =
      ltb-false _ _ (or_parts _ _
      (or_parts _ _ (when-none _ BadHhea (first_of_lines-none_at (table_lines file) 3 sound))).0).0

  pub hhea_has : bytes ≡ table_or_empty file (kept_tag 7) → table_fault file ≡ None → 36 ≤ length bytes
  hhea_has is sound = subst (λ (b : List ℕ). 36 ≤ length b) (sym (hhea_is is)) (hhea_is_long sound)
