-- No file is in both forms, and `glyf` of the second one is never empty.
use Rattle.std.proofs.Common.{◌≡◌, ℕ, ◌+◌, nat_eq, List, [], ◌∷◌, get_or, length, sym, ap, ◌∙◌, refl, arith}
use Rattle.std.proofs.Common.{length-append}
use Rattle.std.specs.List.{concat}
use Rattle.std.proofs.lemmas.Bool.{cond-false, ne_eqb}
use Rattle.std.proofs.lemmas.List.{length-replicate}
use Rattle.codes.specs.declared.runs.Run.{Run}
use Rattle.font_file.specs.Font.{cmap_of}
use Rattle.font_theory.specs.Content.{Content, content, everything, plain_font, table_in_slot}
use Rattle.font_theory.specs.Cut.{IsCurrent, IsOld, our_format}
use Rattle.font_theory.specs.File.{Writing, behind, cmap_bytes, cmap_front, cmap_of_content, cmap_of_three}
use Rattle.font_theory.specs.File.{cmap_with_sequences, file, first_writing, glyf_bytes, groups_of_content}
use Rattle.font_theory.specs.File.{second_writing, sequence_front, writing_of}
use Rattle.font_theory.specs.declared.kinds.TheConstants.{SEQUENCES}
use Rattle.font_theory.specs.declared.Profile.TheVariants.{First, Second}
use Rattle.font_theory.proofs.MeaningLemmas.{cmap_of-file}

-- without variation sequences `cmap` is that of its groups
pub unsequenced : (writing : Writing) (K : Content) → table_in_slot K.copied SEQUENCES ≡ []
    → cmap_of_content writing K ≡ cmap_bytes writing (groups_of_content K)
unfolding cmap_with_sequences
unsequenced writing K none = ap (cmap_with_sequences writing (groups_of_content K)) none

-- and with them it is the same in any form
of_three : (writing : Writing) (runs : List Run) (b : ℕ) (t : List ℕ)
    → cmap_with_sequences writing runs (b ∷ t) ≡ cmap_of_three runs (b ∷ t)
unfolding cmap_with_sequences
of_three writing runs b t =
    cond-false (nat_eq (length (b ∷ t)) 0) (cmap_bytes writing runs) (cmap_of_three runs (b ∷ t))
    (ne_eqb (length (b ∷ t)) 0 (λ e. omega (arith, e)))

pub sequenced : (writing : Writing) (K : Content) → (table_in_slot K.copied SEQUENCES ≡ [] → ⊥)
    → cmap_of_content writing K ≡ cmap_of_three (groups_of_content K) (table_in_slot K.copied SEQUENCES)
sequenced writing K some = go (table_in_slot K.copied SEQUENCES) some
  where
    go : (t : List ℕ) → (t ≡ [] → ⊥) → cmap_with_sequences writing (groups_of_content K) t
        ≡ cmap_of_three (groups_of_content K) t
    go [] some = absurd (some refl)
    go (b ∷ t) some = of_three writing (groups_of_content K) b t

-- numTables distinguishes them
cmaps_apart : (a b : List Run) (t : List ℕ) → cmap_bytes first_writing a ≡ cmap_with_sequences second_writing b t → ⊥
unfolding cmap_bytes cmap_front first_writing second_writing cmap_with_sequences cmap_of_three sequence_front
cmaps_apart a b [] e =
    let count : 1 ≡ 2 = ap (λ (x : List ℕ). get_or x 3 0) e in
    absurd (omega (arith, count))
cmaps_apart a b (x ∷ t) e =
    let count : 1 ≡ 3 = ap (λ (y : List ℕ). get_or y 3 0) (e ∙ of_three second_writing b x t) in
    absurd (omega (arith, count))

pub writings_apart : (K L : Content) → table_in_slot K.copied SEQUENCES ≡ []
    → file (writing_of First) K ≡ file (writing_of Second) L → ⊥
unfolding writing_of
writings_apart K L none e = cmaps_apart (groups_of_content K) (groups_of_content L) (table_in_slot L.copied SEQUENCES)
    (sym (unsequenced first_writing K none) ∙ sym (cmap_of-file first_writing K) ∙ ap cmap_of e
    ∙ cmap_of-file second_writing L)

pub no_cut-both : (X : List ℕ) → IsCurrent our_format X → IsOld our_format X → ⊥
unfolding our_format
no_cut-both X current old =
    writings_apart (content (plain_font X) everything) (content (plain_font X) everything) refl
    (old.written ∙ sym current.written)

zeros-none : second_writing.zeros 0 ≡ 4
unfolding second_writing
zeros-none = refl

zeros-some : (n : ℕ) → (n ≡ 0 → ⊥) → second_writing.zeros n ≡ 0
unfolding second_writing
zeros-some n some = let f = ne_eqb n 0 some in rw f refl

-- four bytes, or the outlines alone
pub length-second_glyf : (outlines : List (List ℕ))
    → (length (concat outlines) ≡ 0 → length (glyf_bytes (writing_of Second) outlines) ≡ 4)
    × ((length (concat outlines) ≡ 0 → ⊥) → length (glyf_bytes (writing_of Second) outlines) ≡ length (concat outlines))
unfolding writing_of
length-second_glyf outlines =
    let b = concat outlines in
    let n = length b in
    let all : length (glyf_bytes second_writing outlines) ≡ n + second_writing.zeros n =
    omega (arith, length-append b (behind second_writing b), length-replicate {A = ℕ} (second_writing.zeros n) 0) in (
      λ e. omega (arith, all, e, ap (λ (k : ℕ). second_writing.zeros k) e, zeros-none),
      λ h. omega (arith, all, zeros-some n h),
    )
