-- Lists that are filled with zeros to a multiple of 4, and their sums.
use Rattle.std.proofs.Common.{◌≡◌, ℕ, ◌+◌, ◌%◌, ◌^◌, List, ◌++◌, take, drop, length, replicate, sum, refl, ap, ◌∙◌}
use Rattle.std.proofs.Common.{arith}
use Rattle.std.proofs.lemmas.List.{append_assoc, drop_at, length-append, length-replicate, take_at}
use Rattle.sfnt_bytes.specs.Findings.{padding_of}
use Rattle.sfnt_bytes.specs.Sums.{checksum_of, words}
use Rattle.sfnt_bytes.proofs.FieldLemmas.{weighted-zeros}
use Rattle.sfnt_bytes.proofs.WordLemmas.{weighted-append, sum_words-weighted}
use Rattle.font_theory.specs.Bytes.{padded}

pub length-padded-is : (b : List ℕ) → length (padded b) ≡ length b + padding_of (length b)
unfolding padded
length-padded-is b = simp (length-append, length-replicate)

-- the bytes before the padding
pub take-padded : (b z : List ℕ) → take (length b) (padded b ++ z) ≡ b
unfolding padded
take-padded b z =
    let zeros : List ℕ = replicate (padding_of (length b)) 0 in
    ap (take (length b)) (append_assoc b zeros z) ∙ take_at b (zeros ++ z) (length b) refl

-- the padding
pub take-drop-padded : (b z : List ℕ) → take (padding_of (length b)) (drop (length b) (padded b ++ z))
    ≡ replicate (padding_of (length b)) 0
unfolding padded
take-drop-padded b z =
    let zeros : List ℕ = replicate (padding_of (length b)) 0 in
    ap (λ (x : List ℕ). take (padding_of (length b)) (drop (length b) x)) (append_assoc b zeros z)
    ∙ ap (take (padding_of (length b))) (drop_at b (zeros ++ z) (length b) refl)
    ∙ take_at zeros z (padding_of (length b)) (length-replicate (padding_of (length b)) 0)

-- zeros after bytes leave their sum
pub sum_words-zeros : (b : List ℕ) (n : ℕ) → sum (words (b ++ replicate n 0)) ≡ sum (words b)
sum_words-zeros b n =
    let all = sum_words-weighted (b ++ replicate n 0) in
    let parts = weighted-append 0 b (replicate n 0) (omega arith) in
    let nothing = weighted-zeros ((0 + length b) % 4) n in
    let front = sum_words-weighted b in
    omega arith

pub checksum_of-padded : (b : List ℕ) → checksum_of (padded b) ≡ checksum_of b
unfolding checksum_of padded
checksum_of-padded b = ap (λ (s : ℕ). s % 2 ^ 32) (sum_words-zeros b (padding_of (length b)))
