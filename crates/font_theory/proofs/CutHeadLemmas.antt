-- `head` as a cut has it.
use Rattle.std.proofs.Common.{◌≡◌, ℕ, ◌+◌, ◌-◌, ◌<◌, ◌≤◌, Bool, true, false, not, nat_eq, nat_lt, ◌&&◌, ◌||◌, List, []}
use Rattle.std.proofs.Common.{◌∷◌, ◌++◌, length, take, drop, get_or, refl, sym, ◌∙◌, ap, arith, length-drop}
use Rattle.std.proofs.Math.Bool.{and_assoc}
use Rattle.std.proofs.lemmas.Bool.{le-ltb, ltb-false, or_parts}
use Rattle.std.proofs.lemmas.List.{append_assoc, drop-drop, drop_at, get_or-append_right, get_or-drop, get_or-take}
use Rattle.std.proofs.lemmas.List.{get_or_append_left, length-append, length-take-le, take_at}
use Rattle.std.specs.Str.{bytes_eq}
use Rattle.std.proofs.lemmas.Slice.Eq.{bytes_eq-Decides}
use Rattle.sfnt_bytes.specs.Number.{u16_at, u32_at}
use Rattle.font_tables.specs.Fields.{index_to_loc_format, magic_number}
use Rattle.font_tables.specs.Refusals.{is_bad_head}
use Rattle.font_theory.specs.Bytes.{bytes16, bytes32, cut_head}

-- the pieces of it
module _ (h : List ℕ) (long : 54 ≤ length h) where
  abbrev middle : List ℕ
  middle = take 38 (drop 12 h)

  abbrev tail : List ℕ
  tail = bytes16 1 ++ drop 52 h

  length-front : length (take 8 h) ≡ 8
  length-front = length-take-le 8 h (omega arith)

  length-middle : length middle ≡ 38
  length-middle = length-take-le 38 (drop 12 h) (omega (arith, length-drop 12 h))

  pub length-cut_head : length (cut_head h) ≡ length h
  unfolding cut_head
  length-cut_head =
      let a = length-append (take 8 h) (bytes32 0 ++ (middle ++ tail)) in
      let b = length-append middle tail in
      let c = length-drop 52 h in
      let front = length-front in
      let mid = length-middle in
      omega arith

  pub cut_head-cut_head : cut_head (cut_head h) ≡ cut_head h
  unfolding cut_head
  cut_head-cut_head =
      let t = take 8 h in
      let z : List ℕ = bytes32 0 in
      let l : List ℕ = bytes16 1 in
      let e = drop 52 h in
      let w = t ++ (z ++ (middle ++ (l ++ e))) in
      let n12 : length (t ++ z) ≡ 12 = omega (arith, length-append t z, length-front) in
      let front : take 8 w ≡ t = take_at t (z ++ (middle ++ (l ++ e))) 8 length-front in
      let rest : drop 12 w ≡ middle ++ (l ++ e) = ap (drop 12) (sym (append_assoc t z (middle ++ (l ++ e))))
      ∙ drop_at (t ++ z) (middle ++ (l ++ e)) 12 n12 in
      let mid : take 38 (drop 12 w) ≡ middle = ap (take 38) rest ∙ take_at middle (l ++ e) 38 length-middle in
      let n40 : length (middle ++ l) ≡ 40 = omega (arith, length-append middle l, length-middle) in
      let end : drop 52 w ≡ e = sym (drop-drop 40 12 w) ∙ ap (drop 40) (rest ∙ sym (append_assoc middle l e))
      ∙ drop_at (middle ++ l) e 40 n40 in
      λ i. front i ++ (z ++ (mid i ++ (l ++ end i)))

  -- the bytes after checksumAdjustment
  behind_adjustment : (i : ℕ) → get_or (cut_head h) (12 + i) 0 ≡ get_or (middle ++ tail) i 0
  unfolding cut_head
  behind_adjustment i =
      let eight : 12 + i - 8 ≡ 4 + i = omega arith in
      let four : 4 + i - 4 ≡ i = omega arith in
      get_or-append_right (take 8 h) (bytes32 0 ++ (middle ++ tail)) 8 (12 + i) 0 length-front (omega arith)
      ∙ ap (λ (k : ℕ). get_or (bytes32 0 ++ (middle ++ tail)) k 0) eight
      ∙ get_or-append_right (bytes32 0) (middle ++ tail) 4 (4 + i) 0 refl (omega arith)
      ∙ ap (λ (k : ℕ). get_or (middle ++ tail) k 0) four

  same_byte : (i : ℕ) → i < 38 → get_or (cut_head h) (12 + i) 0 ≡ get_or h (12 + i) 0
  same_byte i low =
      let inside : i < length middle = omega (arith, length-middle) in
      behind_adjustment i ∙ get_or_append_left middle tail 0 i inside ∙ get_or-take 38 (drop 12 h) i 0 low
      ∙ get_or-drop 12 h i 0

  pub magic_number-cut_head : magic_number (cut_head h) ≡ magic_number h
  unfolding magic_number u32_at
  magic_number-cut_head =
      let a = same_byte 0 (omega arith) in
      let b = same_byte 1 (omega arith) in
      let c = same_byte 2 (omega arith) in
      let d = same_byte 3 (omega arith) in
      rw (a, b, c, d) refl

  pub index_to_loc_format-cut_head : index_to_loc_format (cut_head h) ≡ 1
  unfolding index_to_loc_format u16_at
  index_to_loc_format-cut_head =
      let a : get_or (cut_head h) 50 0 ≡ 0 = behind_adjustment 38
      ∙ get_or-append_right middle tail 38 38 0 length-middle (omega arith) in
      let b : get_or (cut_head h) 51 0 ≡ 1 = behind_adjustment 39
      ∙ get_or-append_right middle tail 38 39 0 length-middle (omega arith) in
      rw (a, b) refl

head_test : (long long' magic magic' writing : Bool) → long' ≡ false → magic' ≡ magic → writing ≡ false
    → (long || magic) ≡ false → (long' || magic' || writing) ≡ false
head_test long long' magic magic' writing a b c h = rw (a, b, c) (go magic (or_parts long magic h).1)
  where
    go : (m : Bool) → m ≡ false → (m || false) ≡ false
    go true e = e
    go false e = refl

-- a `head` that is not refused has the size, and is not refused in the form of a cut
pub head-size : (h : List ℕ) → is_bad_head h ≡ false → 54 ≤ length h
head-size h fine = ltb-false (length h) 54 (or_parts _ _ (or_parts _ _ fine).0).0

pub is_bad_head-cut_head : (h : List ℕ) → is_bad_head h ≡ false → is_bad_head (cut_head h) ≡ false
is_bad_head-cut_head h fine =
    let long = head-size h fine in
    let same = length-cut_head h long in
    head_test (nat_lt (length h) 54) (nat_lt (length (cut_head h)) 54) (not (nat_eq (magic_number h) 0x5F0F3CF5))
    (not (nat_eq (magic_number (cut_head h)) 0x5F0F3CF5)) (nat_lt 1 (index_to_loc_format (cut_head h)))
    (le-ltb (length (cut_head h)) 54 (omega arith))
    (ap (λ (n : ℕ). not (nat_eq n 0x5F0F3CF5)) (magic_number-cut_head h long))
    (ap (nat_lt 1) (index_to_loc_format-cut_head h long))
    (or_parts _ _ fine).0

-- lists of one length, and what stands after them
bytes_eq-append : (a b x y : List ℕ) → length a ≡ length b → bytes_eq (a ++ x) (b ++ y) ≡ (bytes_eq a b && bytes_eq x y)
bytes_eq-append [] [] x y h = refl
bytes_eq-append [] (c ∷ b) x y h = absurd (omega arith)
bytes_eq-append (c ∷ a) [] x y h = absurd (omega arith)
bytes_eq-append (c ∷ a) (d ∷ b) x y h = ap (λ t. nat_eq c d && t) (bytes_eq-append a b x y (omega arith))
    ∙ sym (and_assoc (nat_eq c d) (bytes_eq a b) (bytes_eq x y))

bytes_eq-behind : (a x y : List ℕ) → bytes_eq (a ++ x) (a ++ y) ≡ bytes_eq x y
bytes_eq-behind a x y = bytes_eq-append a a x y refl ∙ ap (λ t. t && bytes_eq x y) ((bytes_eq-Decides a a).1 refl)

-- two are equal as a cut has them where their bytes are outside checksumAdjustment and indexToLocFormat
pub bytes_eq-cut_head : (a b : List ℕ) → 54 ≤ length a → 54 ≤ length b
    → bytes_eq (cut_head a) (cut_head b) ≡ (bytes_eq (take 8 a) (take 8 b)
    && (bytes_eq (take 38 (drop 12 a)) (take 38 (drop 12 b)) && bytes_eq (drop 52 a) (drop 52 b)))
unfolding cut_head
bytes_eq-cut_head a b long also =
    bytes_eq-append (take 8 a) (take 8 b) (bytes32 0 ++ (middle a long ++ tail a long)) (bytes32 0
    ++ (middle b also ++ tail b also)) (length-front a long ∙ sym (length-front b also))
    ∙ ap (λ t. bytes_eq (take 8 a) (take 8 b) && t)
    (bytes_eq-behind (bytes32 0) (middle a long ++ tail a long) (middle b also ++ tail b also)
    ∙ bytes_eq-append (middle a long) (middle b also) (tail a long) (tail b also) (length-middle a long
    ∙ sym (length-middle b also))
    ∙ ap (λ t. bytes_eq (middle a long) (middle b also) && t) (bytes_eq-behind (bytes16 1) (drop 52 a) (drop 52 b)))
