-- The length of a file in each form, by its groups and its outlines.
use Rattle.std.proofs.Common.{◌≡◌, ℕ, ◌+◌, ◌*◌, ◌%◌, List, [], length, map, max, sum, ap, ◌∙◌, arith, inl, inr, refl}
use Rattle.std.specs.List.{concat, flat_map}
use Rattle.std.proofs.lemmas.Bool.{cases_eq}
use Rattle.std.proofs.lemmas.List.{append-nil, length-append}
use Rattle.font_theory.specs.Bytes.{padded}
use Rattle.codes.specs.declared.runs.Run.{Run}
use Rattle.font_theory.specs.Content.{Content, IsClosedContent, glyph_count, table_in_slot}
use Rattle.font_theory.specs.File.{Writing, cmap_bytes, cmap_of_content, cmap_of_three, first_writing, glyf_bytes}
use Rattle.font_theory.specs.File.{group_bytes, groups_of_content, outlines_of, second_writing, sequence_front, size_of}
use Rattle.font_theory.specs.File.{size_with, writing_of}
use Rattle.font_theory.specs.declared.kinds.TheConstants.{SEQUENCES}
use Rattle.font_theory.proofs.CmapLemmas.{length-cmap_bytes, length-groups_bytes}
use Rattle.font_theory.proofs.PaddedLemmas.{padded-same}
use Rattle.font_theory.specs.declared.Profile.TheVariants.{First, Second}
use Rattle.font_theory.proofs.WritingLemmas.{length-second_glyf, sequenced, unsequenced}
use Rattle.font_theory.proofs.HeldLemmas.{some-padded}
use Rattle.font_theory.proofs.PaddingLemmas.{length-padded-is}
use Rattle.font_theory.proofs.SizeLemmas.{length-concat-whole, length-padded-outlines, outlines-padded}

-- the outlines of a closed content are whole words
outlines_whole : (K : Content) → IsClosedContent K → (length (concat (outlines_of K)) % 4 ≡ 0)
    × (length (concat (outlines_of K)) ≡ sum (map length (outlines_of K)))
unfolding outlines_of
outlines_whole K ok =
    length-concat-whole (outlines_of K) (outlines-padded K (some-padded K ok) 0 (glyph_count K.copied))

first_glyf : (outlines : List (List ℕ)) → glyf_bytes (writing_of First) outlines ≡ concat outlines
unfolding writing_of first_writing
first_glyf outlines = append-nil (concat outlines)

first_front : (n : ℕ) → length ((writing_of First).front n) ≡ 7
unfolding writing_of first_writing
first_front n = refl

pub second_front : (n : ℕ) → length ((writing_of Second).front n) ≡ 9
unfolding writing_of second_writing
second_front n = refl

-- how long `cmap` is, padded
pub padded_cmap : (writing : Writing) (K : Content) → table_in_slot K.copied SEQUENCES ≡ []
    → length (padded (cmap_of_content writing K))
    ≡ 4 * length (writing.front (length (groups_of_content K))) + 12 * length (groups_of_content K)
padded_cmap writing K none =
    let long = length-cmap_bytes writing (groups_of_content K) in
    ap (λ (b : List ℕ). length (padded b)) (unsequenced writing K none)
    ∙ ap (λ (b : List ℕ). length b) (padded-same (cmap_bytes writing (groups_of_content K)) (omega (arith, long)))
    ∙ long

padded_three : (runs : List Run) (t : List ℕ)
    → length (padded (cmap_of_three runs t)) ≡ 44 + 12 * length runs + length (padded t)
unfolding cmap_of_three sequence_front
padded_three runs t =
    let groups = length-groups_bytes runs in
    let both = length-append (flat_map group_bytes runs) t in
    let all : length (cmap_of_three runs t) ≡ 44 + 12 * length runs + length t = omega (arith, groups, both) in
    omega (arith, all, length-padded-is (cmap_of_three runs t), length-padded-is t)

pub size-sequenced : (writing : Writing) (K : Content) → (table_in_slot K.copied SEQUENCES ≡ [] → ⊥)
    → size_of writing K ≡ size_with K
    (44 + 12 * length (groups_of_content K) + length (padded (table_in_slot K.copied SEQUENCES)))
    (length (padded (glyf_bytes writing (outlines_of K))))
unfolding size_of
size-sequenced writing K some =
    ap (λ (n : ℕ). size_with K n (length (padded (glyf_bytes writing (outlines_of K)))))
    (ap (λ (b : List ℕ). length (padded b)) (sequenced writing K some)
    ∙ padded_three (groups_of_content K) (table_in_slot K.copied SEQUENCES))

pub size-first : (K : Content) → IsClosedContent K → table_in_slot K.copied SEQUENCES ≡ []
    → size_of (writing_of First) K ≡ size_with K (28 + 12 * length (groups_of_content K))
    (sum (map length (outlines_of K)))
unfolding size_of
size-first K ok none =
    let first = first_front (length (groups_of_content K)) in
    let cmap : length (padded (cmap_of_content (writing_of First) K)) ≡ 28 + 12 * length (groups_of_content K) =
    omega (arith, padded_cmap (writing_of First) K none, first) in
    let glyf = ap (λ (b : List ℕ). length (padded b)) (first_glyf (outlines_of K))
    ∙ length-padded-outlines K (some-padded K ok) in
    λ i. size_with K (cmap i) (glyf i)

-- the second one is the larger
pub sizes-apart : (K : Content) → table_in_slot K.copied SEQUENCES ≡ []
    → size_of (writing_of First) K ≡ size_of (writing_of Second) K → ⊥
unfolding size_of
sizes-apart K none_of e =
    let cmap = padded_cmap (writing_of First) K none_of in
    let cmap_two = padded_cmap (writing_of Second) K none_of in
    let outlines : List (List ℕ) = outlines_of K in
    let first : length (glyf_bytes (writing_of First) outlines) ≡ length (concat outlines) =
    ap length (first_glyf outlines) in
    let a = length-padded-is (glyf_bytes (writing_of First) outlines) in
    let b = length-padded-is (glyf_bytes (writing_of Second) outlines) in
    elim (cases_eq (length (concat outlines)) 0) [
      | inl none ↦ let n = (length-second_glyf outlines).0 none in
          absurd (omega (
            arith,
            e,
            cmap,
            cmap_two,
            first_front (length (groups_of_content K)),
            second_front (length (groups_of_content K)),
            first,
            a,
            b,
            n,
            none,
          ))
      | inr some ↦ let n = (length-second_glyf outlines).1 some in
          absurd (omega (
            arith,
            e,
            cmap,
            cmap_two,
            first_front (length (groups_of_content K)),
            second_front (length (groups_of_content K)),
            first,
            a,
            b,
            n,
            some,
          ))
    ]

-- four zeros stand in `glyf` where there is no other byte
second_glyf : (K : Content) → IsClosedContent K → length (padded (glyf_bytes (writing_of Second) (outlines_of K)))
    ≡ max (sum (map length (outlines_of K))) 4
second_glyf K ok =
    let b : List ℕ = glyf_bytes (writing_of Second) (outlines_of K) in
    let four = (outlines_whole K ok).0 in
    let all = (outlines_whole K ok).1 in
    let long = length-padded-is b in
    elim (cases_eq (length (concat (outlines_of K))) 0) [
      | inl none ↦ let n = (length-second_glyf (outlines_of K)).0 none in omega (arith, four, all, long, n, none)
      | inr some ↦ let n = (length-second_glyf (outlines_of K)).1 some in omega (arith, four, all, long, n, some)
    ]

pub size-second : (K : Content) → IsClosedContent K → table_in_slot K.copied SEQUENCES ≡ []
    → size_of (writing_of Second) K
    ≡ size_with K (36 + 12 * length (groups_of_content K)) (max (sum (map length (outlines_of K))) 4)
unfolding size_of
size-second K ok none =
    let second = second_front (length (groups_of_content K)) in
    let cmap : length (padded (cmap_of_content (writing_of Second) K)) ≡ 36 + 12 * length (groups_of_content K) =
    omega (arith, padded_cmap (writing_of Second) K none, second) in
    λ i. size_with K (cmap i) (second_glyf K ok i)
