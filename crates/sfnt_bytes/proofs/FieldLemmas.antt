-- The sum of the words of bytes in which one field counts as zeros.
use Rattle.std.proofs.Common.{◌≡◌, ℕ, zero, suc, ◌+◌, ◌-◌, ◌%◌, ◌^◌, ◌≤◌, List, ◌++◌, length, take, drop, replicate}
use Rattle.std.proofs.Common.{sum, refl, sym, ap, ◌∙◌, arith, length-drop}
use Rattle.std.proofs.lemmas.List.{take-append-drop, length-take, take-replicate, drop-replicate}
use Rattle.std.proofs.lemmas.Simd.{chunk-drop}
use Rattle.sfnt_bytes.specs.Sums.{words, checksum_of, without_field}
use Rattle.sfnt_bytes.proofs.WordLemmas.{weighted, weighted-append, sum_words-weighted}

-- four bytes at a place, and what stands before and after them
pub sum_words-parts : (front field back : List ℕ) → length field ≡ 4 → sum (words (front ++ (field ++ back)))
    ≡ weighted 0 front + weighted (length front % 4) field + weighted (length front % 4) back
sum_words-parts front field back four =
    let all = sum_words-weighted (front ++ (field ++ back)) in
    let outer = weighted-append 0 front (field ++ back) (omega arith) in
    let same : (0 + length front) % 4 ≡ length front % 4 = omega arith in
    let there = ap (λ (k : ℕ). weighted k (field ++ back)) same in
    let inner = weighted-append (length front % 4) field back (omega arith) in
    let again : (length front % 4 + length field) % 4 ≡ length front % 4 = omega arith in
    let back_there = ap (λ (k : ℕ). weighted k back) again in
    omega arith

-- zeros weigh nothing
pub weighted-zeros : (r n : ℕ) → weighted r (replicate n 0) ≡ 0
unfolding weighted
weighted-zeros r zero = refl
weighted-zeros r (suc n) = let rest = weighted-zeros ((r + 1) % 4) n in omega arith

-- a field counts by where it stands in a word
pub sum_words-field : (b : List ℕ) (at : ℕ) → at + 4 ≤ length b → sum (words b) ≡ sum (words (without_field b at))
    + weighted (at % 4) (take 4 (drop at b))
unfolding without_field
sum_words-field b at h =
    let front : length (take at b) ≡ at = omega (arith, length-take at b) in
    let four : length (take 4 (drop at b)) ≡ 4 = omega (arith, length-take 4 (drop at b), length-drop at b) in
    let is : take at b ++ (take 4 (drop at b) ++ drop (at + 4) b) ≡ b =
    ap (λ (r : List ℕ). take at b ++ r) (sym (chunk-drop at 4 b)) ∙ take-append-drop at b in
    let whole = sum_words-parts (take at b) (take 4 (drop at b)) (drop (at + 4) b) four in
    let emptied = sum_words-parts (take at b) (replicate 4 0) (drop (at + 4) b) refl in
    let nothing = weighted-zeros (length (take at b) % 4) 4 in
    let same = ap (λ (l : List ℕ). sum (words l)) is in
    let there = ap (λ (k : ℕ). weighted (k % 4) (take 4 (drop at b))) front in
    omega arith

abbrev pub eight : List ℕ
eight = replicate 8 0

zero_ends : (a b c d : ℕ) → a ≡ 0 → b ≡ d → c ≡ 0 → a + b + c ≡ d
zero_ends a b c d p q r = omega arith

less : (s w : ℕ) → ((s + w) % 2 ^ 32 + (2 ^ 32 - w % 2 ^ 32)) % 2 ^ 32 ≡ s % 2 ^ 32
less s w = omega arith

-- the sum less what the field, at its place in a word, adds to it
pub sum_without_is : (b m : List ℕ) (at x y : ℕ) → at + 4 ≤ length b → x ≡ checksum_of b → y ≡ checksum_of m
    → m ≡ take (at % 4) eight ++ (take 4 (drop at b) ++ drop (at % 4 + 4) eight)
    → (x + (2 ^ 32 - y)) % 2 ^ 32 ≡ checksum_of (without_field b at)
unfolding checksum_of
sum_without_is b m at x y h is_x is_y is_m =
    let four : length (take 4 (drop at b)) ≡ 4 = omega (arith, length-take 4 (drop at b), length-drop at b) in
    let field = sum_words-field b at h in
    let placed = sum_words-parts (take (at % 4) eight) (take 4 (drop at b)) (drop (at % 4 + 4) eight) four in
    let few : take (at % 4) eight ≡ replicate (at % 4) 0 = take-replicate (at % 4) 8 0 (omega arith) in
    let long : length (take (at % 4) eight) ≡ at % 4 = omega (arith, length-take (at % 4) eight) in
    let front : weighted 0 (take (at % 4) eight) ≡ 0 = ap (weighted 0) few ∙ weighted-zeros 0 (at % 4) in
    let r = length (take (at % 4) eight) % 4 in
    let back : weighted r (drop (at % 4 + 4) eight) ≡ 0 = ap (weighted r) (drop-replicate (at % 4 + 4) 8 0)
    ∙ weighted-zeros r (8 - (at % 4 + 4)) in
    let same : r ≡ at % 4 = omega arith in
    let there : weighted r (take 4 (drop at b)) ≡ weighted (at % 4) (take 4 (drop at b)) =
    ap (λ (k : ℕ). weighted k (take 4 (drop at b))) same in
    let all : sum (words m) ≡ weighted (at % 4) (take 4 (drop at b)) = ap (λ (l : List ℕ). sum (words l)) is_m ∙ placed
    ∙ zero_ends _ _ _ _ front there back in
    rw (is_x, is_y, all, field) (less (sum (words (without_field b at))) (weighted (at % 4) (take 4 (drop at b))))
