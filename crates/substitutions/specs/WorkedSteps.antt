-- Steps over small tables by hand, this project's own.
use Rattle.std.specs.Prelude.{ℕ, List, [], ◌∷◌}
use Rattle.sfnt_bytes.specs.declared.tag.TheConstants.{GSUB}
use Rattle.font_layout.specs.Cleaning.{fixed}
use Rattle.font_layout.specs.Worked.{extended, ligature, overlaid, reverse, sequence, shifted, single, worked_table}
use Rattle.substitutions.specs.Shaping.{Becomes}

-- what lists of glyphs become: glyph 9 is in none of the tables
pub record WorkedSteps : Type 0 where
  pub shifted_by_three : Becomes (worked_table 1 shifted) (9 ∷ 5 ∷ 9 ∷ []) (9 ∷ 2 ∷ 9 ∷ [])
  pub shifted_past_zero : Becomes (worked_table 1 shifted) (2 ∷ []) (65535 ∷ [])
  pub second_of_single : Becomes (worked_table 1 single) (8 ∷ []) (21 ∷ [])
  pub both_of_sequence : Becomes (worked_table 2 sequence) (9 ∷ 4 ∷ []) (9 ∷ 30 ∷ 31 ∷ [])
  pub second_alternate : Becomes (worked_table 3 sequence) (4 ∷ []) (31 ∷ [])
  pub ligature_over_mark : Becomes (worked_table 4 ligature) (4 ∷ 9 ∷ 6 ∷ 9 ∷ []) (40 ∷ 9 ∷ 9 ∷ [])
  pub extended_ligature : Becomes (worked_table 7 (extended 4 ligature)) (4 ∷ 6 ∷ []) (40 ∷ [])
  pub overlaid_ligature : Becomes overlaid (4 ∷ 6 ∷ []) (40 ∷ [])
  pub overlaid_cleared : (list next : List ℕ) → Becomes (fixed GSUB overlaid) list next → ⊥
  pub reversed : Becomes (worked_table 8 reverse) (3 ∷ []) (50 ∷ [])
