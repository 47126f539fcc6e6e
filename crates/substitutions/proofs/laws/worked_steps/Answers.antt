use Rattle.std.proofs.Common.{◌≡◌, ℕ, ◌+◌, ◌*◌, ◌<◌, List, [], ◌∷◌, set, sym, subst, refl, arith}
use Rattle.sfnt_bytes.specs.Number.{u16_at, u32_at}
use Rattle.sfnt_bytes.specs.declared.tag.TheConstants.{GSUB}
use Rattle.font_layout.specs.Cleaning.{field_at, field_since, fixed, has_field}
use Rattle.font_layout.specs.Worked.{extended, ligature, overlaid, reverse, sequence, shifted, single, worked_table}
use Rattle.substitutions.specs.Covered.{Covers}
use Rattle.substitutions.specs.Covered.HasIndex.{listed, ranged}
use Rattle.substitutions.specs.Lookups.{IsExtension, IsListed, IsSubtable, LeadsTo}
use Rattle.substitutions.specs.Lookups.IsSubtable.{plain, extended as by_extension}
use Rattle.substitutions.specs.Shaping.Becomes.{replaced, ligated}
use Rattle.substitutions.specs.Shaping.IsWithout.{none, taken, skipped}
use Rattle.substitutions.specs.Substitution.{FormsLigature, array_end, glyph_array}
use Rattle.substitutions.specs.Substitution.Replaces.{by_delta, by_array, by_sequence, by_alternate, by_reverse}
use Rattle.substitutions.proofs.NoneLemmas.{none_becomes}
use Rattle.substitutions.proofs.laws.worked_steps.Goals as goal

to : {offset from place : ℕ} → 0 < offset → from + offset ≡ place → LeadsTo offset from place
to some sum = record { some = some; sum = sum }

-- the one subtable of each of these tables, whatever the minor version
first : (version kind : ℕ) (subtable : List ℕ) → IsListed (set (worked_table kind subtable) 3 version) kind 22
unfolding u16_at
first version kind subtable =
    record {
      list = 10;
      lookup_list_offset = to (omega arith) refl;
      k = 0;
      lookup_count = omega arith;
      lookup = 14;
      lookup_offset = to (omega arith) refl;
      lookup_type = omega arith;
      j = 0;
      subtable_count = omega arith;
      subtable_offset = to (omega arith) refl;
    }

-- a Coverage of format 1
covers : (table : List ℕ) (kind at coverage glyph i : ℕ) → IsSubtable table kind at → u16_at table at ≡ 1
    → LeadsTo (u16_at table (at + 2)) at coverage → u16_at table coverage ≡ 1 → i < u16_at table (coverage + 2)
    → u16_at table (coverage + 4 + 2 * i) ≡ glyph → Covers table kind 1 at glyph i
covers table kind at coverage glyph i subtable format offset listing few is =
    record {
      subtable = subtable;
      subst_format = format;
      coverage = coverage;
      coverage_offset = offset;
      index = listed listing few is;
    }

single_covers : Covers (worked_table 1 single) 1 2 22 8 1
unfolding u16_at
single_covers =
    record {
      subtable = plain (first 0 1 single);
      subst_format = refl;
      coverage = 32;
      coverage_offset = to (omega arith) refl;
      index = ranged 0 refl (omega arith) (omega arith) (omega arith) refl;
    }

sequence_covers : (kind : ℕ) → Covers (worked_table kind sequence) kind 1 22 4 0
unfolding u16_at
sequence_covers kind =
    covers (worked_table kind sequence) kind 22 30 4 0 (plain (first 0 kind sequence)) refl (to (omega arith) refl) refl
    (omega arith) refl

forms : (version : ℕ) → FormsLigature (set (worked_table 4 ligature) 3 version) 4 (6 ∷ []) 40
unfolding u16_at glyph_array
forms version =
    record {
      at = 22;
      i = 0;
      covers =
          covers (set (worked_table 4 ligature) 3 version) 4 22 30 4 0 (plain (first version 4 ligature)) refl
          (to (omega arith) refl) refl (omega arith) refl;
      ligature_set_count = omega arith;
      set = 36;
      ligature_set_offset = to (omega arith) refl;
      k = 0;
      ligature_count = omega arith;
      ligature = 40;
      ligature_offset = to (omega arith) refl;
      ligature_glyph = refl;
      component_glyph_ids = refl;
    }

-- the list of lookups that is cleared
cleared : (kind at : ℕ) → IsListed (fixed GSUB overlaid) kind at → ⊥
unfolding u16_at fixed has_field field_at field_since
cleared kind at l =
    let place : 10 ≡ l.list = l.lookup_list_offset.sum in
    let count : l.k < u16_at (fixed GSUB overlaid) 10 =
    subst (λ (a : ℕ). l.k < u16_at (fixed GSUB overlaid) a) (sym place) l.lookup_count in
    absurd (omega (arith, count))

extension : IsExtension (worked_table 7 (extended 4 ligature)) 4 30
unfolding u16_at u32_at
extension =
    record {
      from = 22;
      listed = first 0 7 (extended 4 ligature);
      format = refl;
      extension_lookup_type = refl;
      extension_offset = to (omega arith) refl;
    }

forms_by_extension : FormsLigature (worked_table 7 (extended 4 ligature)) 4 (6 ∷ []) 40
unfolding u16_at glyph_array
forms_by_extension =
    record {
      at = 30;
      i = 0;
      covers =
          covers (worked_table 7 (extended 4 ligature)) 4 30 38 4 0 (by_extension extension) refl
          (to (omega arith) refl) refl (omega arith) refl;
      ligature_set_count = omega arith;
      set = 44;
      ligature_set_offset = to (omega arith) refl;
      k = 0;
      ligature_count = omega arith;
      ligature = 48;
      ligature_offset = to (omega arith) refl;
      ligature_glyph = refl;
      component_glyph_ids = refl;
    }

pub returns : goal.returns
unfolding u16_at u32_at array_end glyph_array
returns c =
    record {
      shifted_by_three =
          replaced (9 ∷ []) (9 ∷ []) (by_delta {at = 22} {i = 0} (covers (worked_table 1 shifted) 1 22 28 5 0
          (plain (first 0 1 shifted)) refl (to (omega arith) refl) refl (omega arith) refl) refl);
      shifted_past_zero =
          replaced [] [] (by_delta {at = 22} {i = 1} (covers (worked_table 1 shifted) 1 22 28 2 1
          (plain (first 0 1 shifted)) refl (to (omega arith) refl) refl (omega arith) refl) refl);
      second_of_single = replaced [] [] (by_array {at = 22} {i = 1} single_covers (omega arith) refl);
      both_of_sequence =
          replaced (9 ∷ []) [] (by_sequence {at = 22} {i = 0} {sequence = 36} (sequence_covers 2) (omega arith)
          (to (omega arith) refl) refl);
      second_alternate =
          replaced [] [] (by_alternate {at = 22} {i = 0} {set = 36} 1 (sequence_covers 3) (omega arith)
          (to (omega arith) refl) (omega arith) refl);
      ligature_over_mark = ligated [] (forms 0) (skipped (taken none));
      extended_ligature = ligated [] forms_by_extension (taken none);
      overlaid_ligature = ligated [] (forms 1) (taken none);
      overlaid_cleared = λ list next. none_becomes (fixed GSUB overlaid) cleared;
      reversed =
          replaced [] [] (by_reverse {at = 22} {i = 0} 32 (covers (worked_table 8 reverse) 8 22 36 3 0
          (plain (first 0 8 reverse)) refl (to (omega arith) refl) refl (omega arith) refl) refl (omega arith) refl);
    }
