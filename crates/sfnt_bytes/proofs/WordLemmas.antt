-- How a sum of words goes on: by a whole word, and by the last bytes.
use Rattle.std.proofs.Common.{◌≡◌, ℕ, ◌+◌, ◌-◌, ◌*◌, ◌%◌, ◌^◌, ◌<◌, ◌≤◌, List, [], ◌∷◌, ◌++◌, length, drop, sum, refl}
use Rattle.std.proofs.Common.{sym, ap, ◌∙◌, arith, zero-add}
use Rattle.std.proofs.Math.Nat.{mod-add-mod}
use Rattle.std.proofs.lemmas.List.Sums.{sum_by-cons}
use Rattle.sfnt_bytes.specs.Number.{number, u32_at}
use Rattle.sfnt_bytes.specs.Sums.{SumOfParts, checksum_of, words}

-- the first word, and those of the bytes after it
pub sum_words-first : (b : List ℕ) → 4 ≤ length b → sum (words b) ≡ u32_at b 0 + sum (words (drop 4 b))
unfolding words u32_at
sum_words-first [] h = absurd (omega arith)
sum_words-first (a ∷ []) h = absurd (omega arith)
sum_words-first (a ∷ b ∷ []) h = absurd (omega arith)
sum_words-first (a ∷ b ∷ c ∷ []) h = absurd (omega arith)
sum_words-first (a ∷ b ∷ c ∷ d ∷ rest) h = sum_by-cons (λ x. x) (number a b c d) (words rest)

-- fewer than four bytes are one word, or none
pub sum_words-last : (b : List ℕ) → length b < 4 → sum (words b) ≡ u32_at b 0
unfolding words u32_at
sum_words-last [] h = refl
sum_words-last (a ∷ []) h = zero-add _
sum_words-last (a ∷ b ∷ []) h = zero-add _
sum_words-last (a ∷ b ∷ c ∷ []) h = zero-add _
sum_words-last (a ∷ b ∷ c ∷ d ∷ rest) h = absurd (omega arith)

-- a word moves from what is left into the sum so far
pub word_moves : (b left : List ℕ) (s x t : ℕ) → 4 ≤ length b → x ≡ u32_at b 0 → left ≡ drop 4 b
    → (s + sum (words b)) % 2 ^ 32 ≡ t → ((s + x) % 2 ^ 32 + sum (words left)) % 2 ^ 32 ≡ t
word_moves b left s x t h read is_left e =
    mod-add-mod (s + x) (2 ^ 32) (sum (words left))
    ∙ ap (λ (n : ℕ). n % 2 ^ 32) (let first = sum_words-first b h in
    let same : sum (words left) ≡ sum (words (drop 4 b)) = ap (λ (r : List ℕ). sum (words r)) is_left in
    omega arith)
    ∙ e

-- what is summed and the last bytes are the whole
pub last_moves : (b : List ℕ) (s x t : ℕ) → length b < 4 → x ≡ u32_at b 0 → (s + sum (words b)) % 2 ^ 32 ≡ t
    → (s + x) % 2 ^ 32 ≡ t
last_moves b s x t h read e = ap (λ (n : ℕ). (s + n) % 2 ^ 32) (read ∙ sym (sum_words-last b h)) ∙ e

-- the words of whole words and of what follows them
pub sum_words-append : (xs ys : List ℕ) → length xs % 4 ≡ 0 → sum (words (xs ++ ys)) ≡ sum (words xs) + sum (words ys)
unfolding words
sum_words-append [] ys h = sym (zero-add (sum (words ys)))
sum_words-append (a ∷ []) ys h = absurd (omega arith)
sum_words-append (a ∷ b ∷ []) ys h = absurd (omega arith)
sum_words-append (a ∷ b ∷ c ∷ []) ys h = absurd (omega arith)
sum_words-append (a ∷ b ∷ c ∷ d ∷ rest) ys h =
    let rec = sum_words-append rest ys (omega arith) in
    let long = sum_by-cons (λ x. x) (number a b c d) (words (rest ++ ys)) in
    let short = sum_by-cons (λ x. x) (number a b c d) (words rest) in
    omega arith

-- and so do their checksums
pub sum_of_parts : SumOfParts
unfolding checksum_of
sum_of_parts front back h = let all = sum_words-append front back h in omega arith

-- a sum of bytes by their places in words, from place r of a word on
unfoldable pub weighted : ℕ → List ℕ → ℕ
weighted r [] = 0
weighted r (x ∷ xs) = x * 256 ^ (3 - r) + weighted ((r + 1) % 4) xs

pub weighted-append : (r : ℕ) (xs ys : List ℕ) → r < 4 → weighted r (xs ++ ys) ≡ weighted r xs
    + weighted ((r + length xs) % 4) ys
unfolding weighted
weighted-append r [] ys h = ap (λ (k : ℕ). weighted k ys) (omega arith) ∙ sym (zero-add _)
weighted-append r (x ∷ xs) ys h =
    let rec = weighted-append ((r + 1) % 4) xs ys (omega arith) in
    let same : ((r + 1) % 4 + length xs) % 4 ≡ (r + length (x ∷ xs)) % 4 = omega arith in
    let there = ap (λ (k : ℕ). weighted k ys) same in
    omega arith

pub sum_words-weighted : (b : List ℕ) → sum (words b) ≡ weighted 0 b
unfolding words weighted
sum_words-weighted [] = refl
sum_words-weighted (a ∷ []) = omega arith
sum_words-weighted (a ∷ b ∷ []) = omega arith
sum_words-weighted (a ∷ b ∷ c ∷ []) = omega arith
sum_words-weighted (a ∷ b ∷ c ∷ d ∷ rest) =
    let rec = sum_words-weighted rest in
    let first = sum_by-cons (λ x. x) (number a b c d) (words rest) in
    omega arith
