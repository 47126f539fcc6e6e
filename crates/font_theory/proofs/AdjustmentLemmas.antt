-- `head` with its checksumAdjustment.
use Rattle.std.proofs.Common.{◌≡◌, ℕ, ◌≤◌, ◌||◌, nat_eq, nat_lt, not, List, ◌++◌, take, drop, length, refl, sym, ap}
use Rattle.std.proofs.Common.{◌∙◌, arith}
use Rattle.std.proofs.lemmas.List.{drop-drop, drop_at, length-append, length-drop, length-take-le, take_at}
use Rattle.sfnt_bytes.specs.Number.{u16_at, u32_at}
use Rattle.sfnt_bytes.specs.Sums.{without_field}
use Rattle.font_tables.specs.Fields.{index_to_loc_format, magic_number}
use Rattle.font_tables.specs.Refusals.{is_bad_head}
use Rattle.font_theory.specs.Bytes.{bytes16, bytes32, cut_head, with_adjustment}
use Rattle.font_variations.proofs.NumberLemmas.{u16_at-drop, u32_at-bytes, u32_at-drop}

module _ (adjustment : ℕ) (head : List ℕ) (long : 12 ≤ length head) where
  front : length (take 8 head) ≡ 8
  front = length-take-le 8 head (omega arith)

  pub length-with_adjustment : length (with_adjustment adjustment head) ≡ length head
  unfolding with_adjustment
  length-with_adjustment = let l = front in
      omega (arith, length-append (take 8 head) (bytes32 adjustment ++ drop 12 head), length-drop 12 head)

  -- what stands before the field, the field, and what stands after it
  pub take-with_adjustment : take 8 (with_adjustment adjustment head) ≡ take 8 head
  unfolding with_adjustment
  take-with_adjustment = take_at (take 8 head) (bytes32 adjustment ++ drop 12 head) 8 front

  pub drop-with_adjustment : drop 8 (with_adjustment adjustment head) ≡ bytes32 adjustment ++ drop 12 head
  unfolding with_adjustment
  drop-with_adjustment = drop_at (take 8 head) (bytes32 adjustment ++ drop 12 head) 8 front

  pub behind-with_adjustment : drop 12 (with_adjustment adjustment head) ≡ drop 12 head
  behind-with_adjustment = sym (drop-drop 4 8 (with_adjustment adjustment head)) ∙ ap (drop 4) drop-with_adjustment

  -- the field is read back
  pub u32_at-with_adjustment : u32_at (with_adjustment adjustment head) 8 ≡ adjustment
  u32_at-with_adjustment =
      sym (u32_at-drop 8 0 (with_adjustment adjustment head)) ∙ ap (λ (b : List ℕ). u32_at b 0) drop-with_adjustment
      ∙ u32_at-bytes adjustment (drop 12 head)

  -- another one takes its place
  pub with_adjustment-twice : (other : ℕ) → with_adjustment other (with_adjustment adjustment head)
      ≡ with_adjustment other head
  unfolding with_adjustment
  with_adjustment-twice other = λ i. take-with_adjustment i ++ (bytes32 other ++ behind-with_adjustment i)

  -- it is none of what a cut keeps of `head`
  pub cut_head-with_adjustment : cut_head (with_adjustment adjustment head) ≡ cut_head head
  unfolding cut_head
  cut_head-with_adjustment =
      let end : drop 52 (with_adjustment adjustment head) ≡ drop 52 head =
      sym (drop-drop 40 12 (with_adjustment adjustment head)) ∙ ap (drop 40) behind-with_adjustment
      ∙ drop-drop 40 12 head in
      λ i. take-with_adjustment i ++ (bytes32 0 ++ (take 38 (behind-with_adjustment i) ++ (bytes16 1 ++ end i)))

  magic_number-with_adjustment : magic_number (with_adjustment adjustment head) ≡ magic_number head
  unfolding magic_number
  magic_number-with_adjustment =
      sym (u32_at-drop 12 0 (with_adjustment adjustment head)) ∙ ap (λ (b : List ℕ). u32_at b 0) behind-with_adjustment
      ∙ u32_at-drop 12 0 head

  pub index_to_loc_format-with_adjustment : index_to_loc_format (with_adjustment adjustment head)
      ≡ index_to_loc_format head
  unfolding index_to_loc_format
  index_to_loc_format-with_adjustment =
      sym (u16_at-drop 12 38 (with_adjustment adjustment head))
      ∙ ap (λ (b : List ℕ). u16_at b 38) behind-with_adjustment ∙ u16_at-drop 12 38 head

  pub is_bad_head-with_adjustment : is_bad_head (with_adjustment adjustment head) ≡ is_bad_head head
  is_bad_head-with_adjustment =
      λ i. nat_lt (length-with_adjustment i) 54 || not (nat_eq (magic_number-with_adjustment i) 0x5F0F3CF5)
      || nat_lt 1 (index_to_loc_format-with_adjustment i)

-- the field as zeros
pub without_field-head : (head : List ℕ) → without_field head 8 ≡ with_adjustment 0 head
unfolding without_field with_adjustment
without_field-head head = refl

-- `head` in the form of a cut has the field 0
with_adjustment-cut_head : (head : List ℕ) → 54 ≤ length head → with_adjustment 0 (cut_head head) ≡ cut_head head
unfolding with_adjustment cut_head
with_adjustment-cut_head head long =
    let front : length (take 8 head) ≡ 8 = length-take-le 8 head (omega arith) in
    let behind : List ℕ = take 38 (drop 12 head) ++ (bytes16 1 ++ drop 52 head) in
    let at : drop 8 (take 8 head ++ (bytes32 0 ++ behind)) ≡ bytes32 0 ++ behind =
    drop_at (take 8 head) (bytes32 0 ++ behind) 8 front in
    let end : drop 12 (take 8 head ++ (bytes32 0 ++ behind)) ≡ behind =
    sym (drop-drop 4 8 (take 8 head ++ (bytes32 0 ++ behind))) ∙ ap (drop 4) at in
    λ i. take_at (take 8 head) (bytes32 0 ++ behind) 8 front i ++ (bytes32 0 ++ end i)

pub with_adjustment-zero : (head : List ℕ) → 54 ≤ length head → cut_head head ≡ head → with_adjustment 0 head ≡ head
with_adjustment-zero head long writing = ap (with_adjustment 0) (sym writing) ∙ with_adjustment-cut_head head long
    ∙ writing

-- so the field of `head` with an adjustment as zeros gives `head` back
pub without_field-with_adjustment : (adjustment : ℕ) (head : List ℕ) → 54 ≤ length head → cut_head head ≡ head
    → without_field (with_adjustment adjustment head) 8 ≡ head
without_field-with_adjustment adjustment head long writing =
    without_field-head (with_adjustment adjustment head) ∙ with_adjustment-twice adjustment head (omega arith) 0
    ∙ with_adjustment-zero head long writing
