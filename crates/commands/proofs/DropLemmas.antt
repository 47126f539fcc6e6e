-- How the records of a file are written one by one, without some of their tags.
use Rattle.std.proofs.Common.{◌≡◌, ℕ, ◌+◌, ◌-◌, ◌<◌, ◌≤◌, List, ◌++◌, slice_range, sym, ap, ◌∙◌, arith}
use Rattle.std.proofs.Common.{append-nil}
use Rattle.std.specs.List.{flat_map, range_with_len}
use Rattle.sfnt_bytes.proofs.RangeLemmas.{range_with_len-end, range_with_len-step}
use Rattle.sfnt_bytes.specs.declared.tag.Tag.{Tag}
use Rattle.commands.specs.Drop.{record_without}
use Rattle.commands.proofs.LineLemmas.{flat_map-moves}

-- the header and the first n records
abbrev begun : List Tag → List ℕ → ℕ → List ℕ
begun tags file n = slice_range file 0 12 ++ flat_map (record_without tags file) (range_with_len 0 n)

-- what is made goes up to record k of n
abbrev pub IsAlong : List Tag → List ℕ → ℕ → List ℕ → ℕ → Type 0
IsAlong tags file n made k =
    begun tags file n ≡ made ++ flat_map (record_without tags file) (range_with_len k (n - k))

pub along_start : (tags : List Tag) (file made : List ℕ) (n : ℕ) → made ≡ slice_range file 0 12
    → IsAlong tags file n made 0
along_start tags file made n is =
    let whole : n - 0 ≡ n = omega arith in
    ap (λ front. front ++ flat_map (record_without tags file) (range_with_len 0 n)) (sym is)
    ∙ ap (λ count. made ++ flat_map (record_without tags file) (range_with_len 0 count)) (sym whole)

pub along_step : (tags : List Tag) (file made next : List ℕ) (n k : ℕ) → k < n → IsAlong tags file n made k
    → next ≡ made ++ record_without tags file k → IsAlong tags file n next (k + 1)
along_step tags file made next n k low is more =
    let text = record_without tags file in
    flat_map-moves text (begun tags file n) made k _ _ is (range_with_len-step k n low)
    ∙ ap (λ front. front ++ flat_map text (range_with_len (k + 1) (n - (k + 1)))) (sym more)

pub along_end : (tags : List Tag) (file made : List ℕ) (n k : ℕ) → n ≤ k → IsAlong tags file n made k
    → made ≡ begun tags file n
along_end tags file made n k past is =
    let text = record_without tags file in
    sym (is ∙ ap (λ left. made ++ flat_map text left) (range_with_len-end k n past) ∙ append-nil made)
