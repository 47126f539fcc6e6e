-- Sums of words up to a place, by those up to a place before it.
use Rattle.std.proofs.Common.{◌≡◌, ℕ, ◌+◌, ◌-◌, ◌*◌, ◌%◌, ◌^◌, ◌<◌, ◌≤◌, List, [], ◌++◌, length, take, drop, sum}
use Rattle.std.proofs.Common.{get_or, set, refl, subst, sym, ap, ◌∙◌, arith, inl, inr}
use Rattle.std.proofs.lemmas.Bool.{cases_lt}
use Rattle.std.proofs.lemmas.List.{drop-drop, drop_all, get_or-set_other, get_or-set_same, length-take, take_all}
use Rattle.std.proofs.Math.Seq.{take-add}
use Rattle.sfnt_bytes.specs.Prefixes.{IsPrefixSum}
use Rattle.sfnt_bytes.specs.Sums.{checksum_of, words}
use Rattle.sfnt_bytes.proofs.WordLemmas.{sum_words-append}

pub checksum_small : (b : List ℕ) → checksum_of b < 2 ^ 32
unfolding checksum_of
checksum_small b = omega arith

two : (x y : ℕ) → (x % 2 ^ 32 + y % 2 ^ 32) % 2 ^ 32 ≡ (x + y) % 2 ^ 32
two x y = omega arith

-- the sum of whole words and of what follows them
pub checksum-append : (xs ys : List ℕ) → length xs % 4 ≡ 0 → (checksum_of xs + checksum_of ys) % 2 ^ 32
    ≡ checksum_of (xs ++ ys)
unfolding checksum_of
checksum-append xs ys h =
    two (sum (words xs)) (sum (words ys)) ∙ ap (λ (n : ℕ). n % 2 ^ 32) (sym (sum_words-append xs ys h))

nothing_more : (b : List ℕ) → (checksum_of b + checksum_of []) % 2 ^ 32 ≡ checksum_of b
unfolding checksum_of words
nothing_more b = omega arith

take_nothing : (n : ℕ) (xs : List ℕ) → xs ≡ [] → take n xs ≡ []
take_nothing n xs e = take_all n xs (omega (arith, ap length e)) ∙ e

-- the sum up to a place, and that of the bytes after it; a multiple of 4
pub checksum-take : (b : List ℕ) (start n : ℕ) → start % 4 ≡ 0
    → (checksum_of (take start b) + checksum_of (take n (drop start b))) % 2 ^ 32 ≡ checksum_of (take (start + n) b)
checksum-take b start n h =
    elim (cases_lt (length b) start) [
      | inl x ↦
          let none : drop start b ≡ [] = drop_all start b (omega (arith, x)) in
          let all : take start b ≡ take (start + n) b = take_all start b (omega (arith, x))
          ∙ sym (take_all (start + n) b (omega (arith, x))) in
          let nothing : take n (drop start b) ≡ [] = take_nothing n (drop start b) none in
          ap (λ (t : List ℕ). (checksum_of (take start b) + checksum_of t) % 2 ^ 32) nothing
          ∙ nothing_more (take start b) ∙ ap checksum_of all
      | inr x ↦
          checksum-append (take start b) (take n (drop start b)) (omega (arith, length-take start b, h, x))
          ∙ ap checksum_of (sym (take-add start n b))
    ]

-- the sum up to a place, by the one up to a place before it
pub sum_on : (b : List ℕ) (start to s t : ℕ) → start % 4 ≡ 0 → start ≤ to → s ≡ checksum_of (take start b)
    → t ≡ checksum_of (take (to - start) (drop start b)) → (s + t) % 2 ^ 32 ≡ checksum_of (take to b)
sum_on b start to s t h l is_s is_t =
    let e : start + (to - start) ≡ to = omega (arith, l) in
    rw (is_s, is_t) (checksum-take b start (to - start) h ∙ ap (λ (n : ℕ). checksum_of (take n b)) e)

-- and the sum of what lies between two places, by those up to them
less : (a b t : ℕ) → a < 2 ^ 32 → t < 2 ^ 32 → (a + t) % 2 ^ 32 ≡ b → (b + (2 ^ 32 - a)) % 2 ^ 32 ≡ t
less a b t x y h = omega (arith, h)

pub sum_between_is : (b : List ℕ) (start to x y : ℕ) → start % 4 ≡ 0 → start ≤ to → x ≡ checksum_of (take start b)
    → y ≡ checksum_of (take to b) → (y + (2 ^ 32 - x)) % 2 ^ 32 ≡ checksum_of (take (to - start) (drop start b))
sum_between_is b start to x y h l is_x is_y =
    rw (is_x, is_y) (less (checksum_of (take start b)) (checksum_of (take to b))
    (checksum_of (take (to - start) (drop start b))) (checksum_small (take start b))
    (checksum_small (take (to - start) (drop start b)))
    (sum_on b start to (checksum_of (take start b)) (checksum_of (take (to - start) (drop start b))) h l refl refl))

pub nothing_summed : 0 ≡ checksum_of []
unfolding checksum_of words
nothing_summed = refl

-- a piece of what is left, of this number of bytes or of all
same_front : (rest : List ℕ) (n w : ℕ) → n ≤ length rest → n ≤ w → (n < w → n ≡ length rest) → take n rest ≡ take w rest
same_front rest n w a b c =
    elim (cases_lt n w) [
      | inl x ↦ take_all n rest (omega (arith, c x)) ∙ sym (take_all w rest (omega (arith, c x, x)))
      | inr x ↦ let e : n ≡ w = omega (arith, x, b) in ap (λ (j : ℕ). take j rest) e
    ]

same_back : (rest : List ℕ) (n w : ℕ) → n ≤ length rest → n ≤ w → (n < w → n ≡ length rest) → drop n rest ≡ drop w rest
same_back rest n w a b c =
    elim (cases_lt n w) [
      | inl x ↦ drop_all n rest (omega (arith, c x)) ∙ sym (drop_all w rest (omega (arith, c x, x)))
      | inr x ↦ let e : n ≡ w = omega (arith, x, b) in ap (λ (j : ℕ). drop j rest) e
    ]

-- the sum up to the next place, and what is left after it
pub next_sum : (b rest piece : List ℕ) (start next w n s t : ℕ) → start % 4 ≡ 0 → next ≡ start + w → rest ≡ drop start b
    → piece ≡ take n rest → n ≤ length rest → n ≤ w → (n < w → n ≡ length rest) → s ≡ checksum_of (take start b)
    → t ≡ checksum_of piece → (s + t) % 2 ^ 32 ≡ checksum_of (take next b)
next_sum b rest piece start next w n s t h e is_rest is_piece a c d is_s is_t =
    let front : piece ≡ take w (drop start b) = is_piece ∙ same_front rest n w a c d ∙ ap (take w) is_rest in
    sum_on b start next s t h (omega (arith, e)) is_s (is_t ∙ ap checksum_of front
    ∙ (let far : w ≡ next - start = omega (arith, e) in ap (λ (j : ℕ). checksum_of (take j (drop start b))) far))

pub next_rest : (b rest behind : List ℕ) (start next w n : ℕ) → next ≡ start + w → rest ≡ drop start b
    → behind ≡ drop n rest → n ≤ length rest → n ≤ w → (n < w → n ≡ length rest) → behind ≡ drop next b
next_rest b rest behind start next w n e is_rest is_behind a c d =
    is_behind ∙ same_back rest n w a c d ∙ ap (drop w) is_rest ∙ drop-drop w start b ∙ ap (λ (j : ℕ). drop j b) (sym e)

-- one more sum is kept
pub more_sums : (b sums : List ℕ) (k s : ℕ) → k < length sums
    → ((j : ℕ) → j < k → get_or sums j 0 ≡ checksum_of (take (j * 262144) b)) → s ≡ checksum_of (take (k * 262144) b)
    → (j : ℕ) → j < k + 1 → get_or (set sums k s) j 0 ≡ checksum_of (take (j * 262144) b)
more_sums b sums k s l each is j h =
    elim (cases_lt j k) [
      | inl x ↦ get_or-set_other sums k j s 0 (λ e. omega (arith, x, e)) ∙ each j x
      | inr x ↦ let e : j ≡ k = omega (arith, x, h) in ap (λ (i : ℕ). get_or (set sums k s) i 0) e
          ∙ get_or-set_same sums k s 0 l ∙ is ∙ ap (λ (i : ℕ). checksum_of (take (i * 262144) b)) (sym e)
    ]

-- the sum of a file is that of a front and of what lies after it
pub front_and_rest : (b v f : List ℕ) (end s t : ℕ) → IsPrefixSum b end s → b ≡ v → f ≡ v
    → t ≡ checksum_of (take (length f - end) (drop end f)) → (s + t) % 2 ^ 32 ≡ checksum_of v
front_and_rest b v f end s t k is_b is_f is_t =
    let same : f ≡ b = is_f ∙ sym is_b in
    let rest : t ≡ checksum_of (take (length b - end) (drop end b)) =
    is_t ∙ ap (λ (x : List ℕ). checksum_of (take (length x - end) (drop end x))) same in
    sum_on b end (length b) s t k.aligned k.within k.sum rest ∙ ap checksum_of (take_all (length b) b (omega arith)
    ∙ is_b)

-- the sum up to a table, up to its end, and up to the multiple of 4 before that
pub longer_front : (b : List ℕ) (at from to end s g t l : ℕ) → IsPrefixSum b at s → at ≤ from → from ≤ to
    → to ≤ length b → from % 4 ≡ 0 → end ≡ to - to % 4 → g ≡ checksum_of (take (from - at) (drop at b))
    → t ≡ checksum_of (take (to - from) (drop from b)) → l ≡ checksum_of (take (to - end) (drop end b))
    → IsPrefixSum b end (((((s + g) % 2 ^ 32) + t) % 2 ^ 32 + (2 ^ 32 - l)) % 2 ^ 32)
longer_front b at from to end s g t l k low order within aligned e is_g is_t is_l =
    let four : end % 4 ≡ 0 = omega (arith, e) in
    let below : end ≤ to = omega (arith, e) in
    let before = sum_on b at from s g k.aligned low k.sum is_g in
    let up = sum_on b from to ((s + g) % 2 ^ 32) t aligned order before is_t in
    let back = sum_on b end to (checksum_of (take end b)) l four below refl is_l in
    record {
      aligned = four;
      within = omega (arith, below, within);
      sum = less l (((s + g) % 2 ^ 32 + t) % 2 ^ 32) (checksum_of (take end b))
          (subst (λ (x : ℕ). x < 2 ^ 32) (sym is_l) (checksum_small (take (to - end) (drop end b))))
          (checksum_small (take end b)) (omega (arith, up, back));
    }
