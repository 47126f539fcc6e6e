-- How many bytes a union has, and how many of them are its groups.
use Rattle.std.proofs.Common.{◌≡◌, ℕ, ◌+◌, ◌*◌, ◌≤◌, List, [], ◌∷◌, Option, length, refl, sym, ap, ◌∙◌, arith}
use Rattle.sfnt_bytes.specs.declared.directory.TheConstants.{MAX_FILE}
use Rattle.sfnt_bytes.specs.Sums.{checksum_of}
use Rattle.codes.specs.Runs.{groups_from}
use Rattle.codes.specs.declared.runs.Run.{Run}
use Rattle.codes.proofs.RunLemmas.{groups_done}
use Rattle.font_theory.specs.Content.{Content, IsWritable, glyph_count, table_in_slot}
use Rattle.font_theory.specs.declared.kinds.TheConstants.{SEQUENCES}
use Rattle.font_theory.specs.File.{current_writing, file, groups_of_content, outlines_of}
use Rattle.font_theory.specs.File.{size_of}
use Rattle.font_theory.proofs.SizeLemmas.{length-file}
use Rattle.font_theory.proofs.WritingSizeLemmas.{padded_cmap, second_front, size-sequenced}
use Rattle.font_write.specs.Parts.{glyf_to, groups_bytes}
use Rattle.font_write.specs.Plan.{AreCounts}
use Rattle.font_write.proofs.ChecksumLemmas.{checksum_of-nil}
use Rattle.font_write.proofs.GroupLemmas.{groups_bytes-nil}
use Rattle.font_write.specs.declared.size.Counts.{Counts}
use Rattle.font_join.specs.Union.{HaveLength, listed_outline, outlines_length}
use Rattle.font_join.specs.Inside.{without_codes}
use Rattle.font_join.proofs.OutlineListLemmas.{length-glyf_to, outlines_length-most}
use Rattle.map_union.proofs.UnionMapLemmas.{no_codes}

-- the outlines of a content that has those of a list are counted
module _ (K : Content) (outlines : List (Option (List ℕ))) (bytes : ℕ) (is : K.outline ≡ listed_outline outlines)
    (all : length outlines ≡ glyph_count K.copied) (counted : HaveLength outlines bytes) where
  pub outlines_counted : bytes ≡ length (glyf_to K (glyph_count K.copied))
  outlines_counted = counted.counted ∙ sym (length-glyf_to K outlines is) ∙ ap (λ (n : ℕ). length (glyf_to K n)) all

  pub outlines_few : bytes ≤ 0x0001_0000_0000_0000
  outlines_few =
      let small : outlines_length outlines ≤ MAX_FILE * length outlines = outlines_length-most outlines counted.small in
      omega (arith, counted.counted, small, counted.few)

-- a content without its codes
module _ (K : Content) where
  pub writable_without : IsWritable K → IsWritable (without_codes K)
  writable_without ok =
      record {
        mapped_below = λ c. let some = ok.mapped_below c in omega (arith, some);
        mapped_codes = λ c x. refl;
        slots = ok.slots;
        head_form = ok.head_form;
        head_size = ok.head_size;
        sequences = ok.sequences;
        past = ok.past;
      }

  no_groups : length (groups_from (without_codes K).map 0) ≡ 0
  no_groups = ap length (groups_done (without_codes K).map 0 no_codes (λ c x. refl))

  no_sum : checksum_of (groups_bytes (groups_from (without_codes K).map 0)) ≡ 0
  no_sum = ap (λ (runs : List Run). checksum_of (groups_bytes runs)) (groups_done (without_codes K).map 0 no_codes
      (λ c x. refl)) ∙ ap checksum_of groups_bytes-nil ∙ checksum_of-nil

  pub counts_without : (counts : Counts) → counts.groups ≡ 0 → counts.group_sum ≡ 0
      → counts.outlines ≡ length (glyf_to K (glyph_count K.copied)) → counts.outlines ≤ 0x0001_0000_0000_0000
      → AreCounts (without_codes K) counts
  unfolding groups_of_content glyf_to
  counts_without counts groups group_sum outlines small =
      record { groups = groups ∙ sym no_groups; group_sum = group_sum ∙ sym no_sum; outlines = outlines; small = small }

  abbrev W : Content
  W = without_codes K

  size_plain : table_in_slot K.copied SEQUENCES ≡ []
      → size_of current_writing K ≡ size_of current_writing W + 12 * length (groups_from K.map 0)
  unfolding size_of groups_of_content outlines_of
  size_plain none =
      omega (
        arith,
        no_groups,
        padded_cmap current_writing K none,
        padded_cmap current_writing W none,
        second_front (length (groups_from K.map 0)),
        second_front (length (groups_from W.map 0)),
      )

  size_sequenced : (table_in_slot K.copied SEQUENCES ≡ [] → ⊥)
      → size_of current_writing K ≡ size_of current_writing W + 12 * length (groups_from K.map 0)
  unfolding groups_of_content outlines_of
  size_sequenced some =
      omega (arith, no_groups, size-sequenced current_writing K some, size-sequenced current_writing W some)

  size_apart : size_of current_writing K ≡ size_of current_writing W + 12 * length (groups_from K.map 0)
  size_apart = go (table_in_slot K.copied SEQUENCES) refl
    where
      go : (t : List ℕ) → table_in_slot K.copied SEQUENCES ≡ t
          → size_of current_writing K ≡ size_of current_writing W + 12 * length (groups_from K.map 0)
      go [] e = size_plain e
      go (x ∷ t) e = size_sequenced (λ none. let no : [] ≡ (x ∷ t) = sym none ∙ e in cc)

  pub size_without : IsWritable K → length (file current_writing K) ≡ length (file current_writing (without_codes K))
      + 12 * length (groups_from K.map 0)
  size_without ok =
      let whole = length-file current_writing K ok in
      let rest = length-file current_writing (without_codes K) (writable_without ok) in
      omega (arith, whole, rest, size_apart)
