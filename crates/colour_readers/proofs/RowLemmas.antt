-- Rows in order of their glyphs, and what a search for a glyph finds.
use Rattle.std.proofs.Common.{refl}
use Rattle.std.proofs.Common.{Option, None}
use Rattle.std.proofs.Common.{◌≡◌, ℕ, zero, suc, ◌+◌, ◌<◌, ◌≤◌, true, false, Bool, cond, leb, ltb, ◌&&◌, List, []}
use Rattle.std.proofs.Common.{◌∷◌, get_or, length, Some, is_some, sym, ap, subst, ◌∙◌, arith, inl, inr}
use Rattle.std.proofs.lemmas.Bool.{both_ways, and_from, and_left, and_right, cases_lt, le-leb, le-ltb, leb-true, lt-leb}
use Rattle.std.proofs.lemmas.Bool.{lt-ltb, or_cases}
use Rattle.codes.specs.Order.{Ascends, AreInOrder}
use Rattle.codes.proofs.OrderLemmas.{in_order_above, in_order_ascends}
use Rattle.colour_readers.specs.RowsOf.{IsReached, IsRowOf, LiesPast, row_first, row_last}
use Rattle.colour_readers.specs.declared.rows.Rows.{Rows}
use Rattle.colour_readers.proofs.PickLemmas.{Within, pick, pick-before}

module _ {X : Type 0} where
  in_order : (first last : X → ℕ) (from n : ℕ) (xs : List X) → Within first last from n xs → AreInOrder first
      last from xs
  in_order first last from n [] h = tt
  in_order first last from n (x ∷ xs) h =
      let same : last x + 1 ≡ suc (last x) = omega arith in
      (h.0, h.1, subst (λ (m : ℕ). AreInOrder first last m xs) same (in_order first last (last x + 1) n xs h.3))

  reached : (first last : X → ℕ) (d : X) (from n g i : ℕ) (xs : List X) → Within first last from n xs
      → ((k : ℕ) → k < i → k < length xs → last (get_or xs k d) < g)
      → (i < length xs → g ≤ last (get_or xs i d)) → i ≤ length xs
      → pick first last g xs
      ≡ cond (ltb i (length xs) && leb (first (get_or xs i d)) g) (Some (get_or xs i d)) None
  reached first last d from n g i [] w before here h =
      sym (ap (λ b. cond b (Some d) None) (and_left (ltb i 0) (leb (first d) g) (le-ltb i 0 (omega arith))))
  reached first last d from n g zero (x ∷ xs) w before here h =
      let some = lt-ltb 0 (suc (length xs)) (omega arith) in
      let ends = le-leb g (last x) (here (omega arith)) in
      elim (cases_lt g (first x)) [
        | inl l ↦
            let out = and_left (leb (first x) g) (leb g (last x)) (lt-leb (first x) g l) in
            ap (λ b. cond b (Some x) (pick first last g xs)) out
            ∙ pick-before first last (last x + 1) n g xs w.3 (omega (arith, l, w.1))
            ∙ sym (ap (λ b. cond b (Some x) None)
            (and_right (ltb 0 (suc (length xs))) (leb (first x) g) (lt-leb (first x) g l)))
        | inr l ↦
            ap (λ b. cond b (Some x) (pick first last g xs))
            (and_from (leb (first x) g) (leb g (last x)) (le-leb (first x) g l) ends)
            ∙ sym (ap (λ b. cond b (Some x) None)
            (and_from (ltb 0 (suc (length xs))) (leb (first x) g) some (le-leb (first x) g l)))
      ]
  reached first last d from n g (suc i) (x ∷ xs) w before here h =
      let out =
      and_right (leb (first x) g) (leb g (last x))
      (lt-leb g (last x) (before 0 (omega arith) (omega arith))) in
      let same : ltb i (length xs) ≡ ltb (suc i) (suc (length xs)) = less i (length xs) in
      ap (λ b. cond b (Some x) (pick first last g xs)) out
      ∙ reached first last d (last x + 1) n g i xs w.3 (λ k l m. before (suc k) (omega (arith, l)) (omega (arith, m)))
      (λ l. here (omega (arith, l))) (omega (arith, h))
      ∙ ap (λ b. cond (b && leb (first (get_or xs i d)) g) (Some (get_or xs i d)) None) same
    where
      less : (a b : ℕ) → ltb a b ≡ ltb (suc a) (suc b)
      less a b = elim (cases_lt a b) [
        | inl l ↦ lt-ltb a b l ∙ sym (lt-ltb (suc a) (suc b) (omega (arith, l)))
        | inr l ↦ le-ltb a b l ∙ sym (le-ltb (suc a) (suc b) (omega (arith, l)))
      ]

  -- rows are members of a list in order
  pub record AreRowsOf (r : Rows) (first last : X → ℕ) (d : X) (n : ℕ) (xs : List X) : Type 0 where
    pub within : Within first last 0 n xs
    pub count : length xs ≡ r.count
    pub first_is : (i : ℕ) → i < r.count → row_first r i ≡ first (get_or xs i d)
    pub last_is : (i : ℕ) → i < r.count → row_last r i ≡ last (get_or xs i d)

  pub rows_ascend : (r : Rows) (first last : X → ℕ) (d : X) (n : ℕ) (xs : List X) → AreRowsOf r first last d n xs
      → Ascends (row_last r) r.count
  rows_ascend r first last d n xs are i j h l =
      omega (
        arith,
        in_order_ascends first last d xs r.count are.count (in_order first last 0 n xs are.within) i j h l,
        are.last_is i (omega (arith, h, l)),
        are.last_is j l,
      )

  found_at : (r : Rows) (first last : X → ℕ) (d : X) (n g i : ℕ) (xs : List X) → AreRowsOf r first last d n xs
      → ((k : ℕ) → k < i → row_last r k < g) → (i < r.count → g ≤ row_last r i) → i ≤ r.count
      → pick first last g xs ≡ cond (ltb i r.count && leb (first (get_or xs i d)) g) (Some (get_or xs i d)) None
  found_at r first last d n g i xs are before here h =
      reached first last d 0 n g i xs are.within
      (λ k l m. let small : k < r.count = omega (arith, m, are.count) in
      omega (arith, before k l, are.last_is k small))
      (λ l. let small : i < r.count = omega (arith, l, are.count) in omega (arith, here small, are.last_is i small))
      (omega (arith, h, are.count))
      ∙ ap (λ (m : ℕ). cond (ltb i m && leb (first (get_or xs i d)) g) (Some (get_or xs i d)) None) are.count

  some_test : (b : Bool) (x : X) → is_some (cond b (Some x) None) ≡ b
  some_test true x = refl
  some_test false x = refl

  rows_at : (r : Rows) (first last : X → ℕ) (d : X) (n g i : ℕ) (xs : List X) → AreRowsOf r first last d n xs
      → ((k : ℕ) → k < i → row_last r k < g) → (i < r.count → g ≤ row_last r i) → i ≤ r.count
      → is_some (pick first last g xs) ≡ (ltb i r.count && leb (first (get_or xs i d)) g)
  rows_at r first last d n g i xs are before here h =
      ap is_some (found_at r first last d n g i xs are before here h)
      ∙ some_test (ltb i r.count && leb (first (get_or xs i d)) g) (get_or xs i d)

  -- the row of a glyph
  pub row_found : (r : Rows) (first last : X → ℕ) (d : X) (n g i : ℕ) (xs : List X) → AreRowsOf r first last d n xs
      → IsRowOf r g i → pick first last g xs ≡ Some (get_or xs i d)
  row_found r first last d n g i xs are is =
      found_at r first last d n g i xs are is.reached.before is.reached.here is.reached.within
      ∙ ap (λ b. cond b (Some (get_or xs i d)) None)
      (and_from (ltb i r.count) (leb (first (get_or xs i d)) g) (lt-ltb i r.count is.inside)
      (le-leb (first (get_or xs i d)) g (omega (arith, is.begins, are.first_is i is.inside))))

  nothing_found : (o : Option X) → false ≡ is_some o → o ≡ None
  nothing_found None e = refl
  nothing_found (Some x) e = absurd (both_ways false refl (e))

  first_same : (r : Rows) (first last : X → ℕ) (d : X) (n g i : ℕ) (xs : List X) → AreRowsOf r first last d n xs
      → (ltb i r.count && leb (row_first r i) g) ≡ (ltb i r.count && leb (first (get_or xs i d)) g)
  first_same r first last d n g i xs are = elim (cases_lt i r.count) [
    | inl l ↦ ap (λ (m : ℕ). ltb i r.count && leb m g) (are.first_is i l)
    | inr l ↦
        let out = le-ltb i r.count l in
        and_left (ltb i r.count) (leb (row_first r i) g) out
        ∙ sym (and_left (ltb i r.count) (leb (first (get_or xs i d)) g) out)
  ]

  pub rows_reached : (r : Rows) (first last : X → ℕ) (d : X) (n g : ℕ) (xs : List X) (b : Bool)
      → AreRowsOf r first last d n xs → IsReached r g b → b ≡ is_some (pick first last g xs)
  rows_reached r first last d n g xs b are h =
      let at = h.1 in
      h.2 ∙ first_same r first last d n g h.0 xs are
      ∙ sym (rows_at r first last d n g h.0 xs are at.before at.here at.within)

  pub no_row : (r : Rows) (first last : X → ℕ) (d : X) (n g : ℕ) (xs : List X) → AreRowsOf r first last d n xs
      → IsReached r g false → pick first last g xs ≡ None
  no_row r first last d n g xs are h =
      nothing_found (pick first last g xs) (rows_reached r first last d n g xs false are h)

  pub rows_past : (r : Rows) (first last : X → ℕ) (d : X) (n from to : ℕ) (xs : List X) (b : Bool)
      → AreRowsOf r first last d n xs → LiesPast r from to b → b ≡ true
      → (g : ℕ) → from ≤ g → g < to → is_some (pick first last g xs) ≡ false
  rows_past r first last d n from to xs b are h t g low high =
      let i = h.0 in
      let at = h.1 in
      let begins : i < r.count → to ≤ first (get_or xs i d) =
      λ l. elim (or_cases (leb r.count i) (leb to (row_first r i)) (sym h.2 ∙ t)) [
        | inl e ↦ absurd (omega (arith, l, leb-true r.count i e))
        | inr e ↦ omega (arith, leb-true to (row_first r i) e, are.first_is i l)
      ] in
      rows_at r first last d n g i xs are
      (λ k l. omega (arith, at.before k l, low))
      (λ l. omega (
        arith,
        high,
        begins l,
        are.last_is i l,
        (in_order_above first last d 0 xs (in_order first last 0 n xs are.within) i (omega (arith, l, are.count))).1,
      ))
      at.within
      ∙ elim (cases_lt i r.count) [
        | inl l ↦
            and_right (ltb i r.count) (leb (first (get_or xs i d)) g)
            (lt-leb (first (get_or xs i d)) g (omega (arith, high, begins l)))
        | inr l ↦ and_left (ltb i r.count) (leb (first (get_or xs i d)) g) (le-ltb i r.count l)
      ]
