-- Trees of joins, and what they come to.
use Rattle.std.proofs.Common.{◌≡◌, ℕ, ◌≤◌, Bool, true, false, ◌⊎◌, inl, inr, ◌||◌, List, length, None, Some, refl, sym}
use Rattle.std.proofs.Common.{◌∙◌, ap, subst}
use Rattle.std.proofs.lemmas.Bool.{or_cases, or_left, or_right}
use Rattle.font_theory.specs.Cut.{Format, IsCurrent, IsCut, IsFormat, Under, cut, joined, content_of_all, misfit_of}
use Rattle.font_theory.specs.Agreement.{Agree, both}
use Rattle.font_theory.specs.Content.{Content, Wanted, either_wanted}
use Rattle.font_theory.specs.Tree.{Differs, IsSmall, JoinTree, Overflows, Takes, Value, cuts, union_in}
use Rattle.font_theory.specs.Tree.JoinTree.{leaf, node}
use Rattle.font_theory.proofs.CutLemmas.{Agree-under, CanJoin-cuts, CanJoin-under, IsClosed-whole, IsCurrent-joined}
use Rattle.font_theory.proofs.CutLemmas.{IsCut-joined, Under-joined_left, Under-joined_right, Under-least, Under-self}
use Rattle.font_theory.proofs.CutLemmas.{Under-through, joined-cuts, content_of_all-joined, content_of_all-mutual}
use Rattle.font_theory.proofs.CutLemmas.{misfit-under}
use Rattle.font_theory.proofs.DifferenceLemmas.{Agree-decided}
use Rattle.font_theory.proofs.HeldLemmas.{cases_option}

module _ (R : Format) (law : IsFormat R) where
  pub Value-one : (t : JoinTree (List ℕ)) (v w : List ℕ) → Value R t v → Value R t w → v ≡ w
  Value-one (leaf x) v w p q = p ∙ sym q
  Value-one (node s t) v w p q =
      p.5 ∙ ap (λ x. joined R x p.1) (Value-one s p.0 q.0 p.2 q.2) ∙ ap (joined R q.0) (Value-one t p.1 q.1 p.3 q.3)
      ∙ sym q.5

  pub Value-small : (t : JoinTree (List ℕ)) (v : List ℕ) → IsSmall R t → Value R t v → length v ≤ R.limit
  Value-small (leaf x) v small p = subst (λ (y : List ℕ). length y ≤ R.limit) (sym p) small
  Value-small (node s t) v small p = small.2 v p

  joined-small : (s t : JoinTree (List ℕ)) (v : List ℕ) → IsSmall R (node s t) → (p : Value R (node s t) v)
      → length (joined R p.0 p.1) ≤ R.limit
  joined-small s t v small p = subst (λ (y : List ℕ). length y ≤ R.limit) p.5 (small.2 v p)

  pub Value-cut : (t : JoinTree (List ℕ)) (v : List ℕ) → IsSmall R t → ((x : List ℕ) → Takes t x → IsCut R x)
      → Value R t v → IsCut R v
  Value-cut (leaf x) v small each p = each v p
  Value-cut (node s t) v small each p =
      subst (IsCut R) (sym p.5) (IsCut-joined R law p.0 p.1 p.4 (joined-small s t v small p))

  -- each file of a tree is under its value
  pub Value-above : (t : JoinTree (List ℕ)) (v : List ℕ) → IsSmall R t → ((x : List ℕ) → Takes t x → IsCut R x)
      → Value R t v → (x : List ℕ) → Takes t x → Under R x v
  Value-above (leaf y) v small each p x h =
      subst (λ (z : List ℕ). Under R z v) (p ∙ sym h) (Under-self R law v (each v p))
  Value-above (node s t) v small each p x (inl h) =
      Under-through R law x p.0 v (Value-above s p.0 small.0 (λ y k. each y (inl k)) p.2 x h)
      (subst (λ (z : List ℕ). Under R p.0 z) (sym p.5) (Under-joined_left R law p.0 p.1 p.4
      (joined-small s t v small p)))
  Value-above (node s t) v small each p x (inr h) =
      Under-through R law x p.1 v (Value-above t p.1 small.1 (λ y k. each y (inr k)) p.3 x h)
      (subst (λ (z : List ℕ). Under R p.1 z) (sym p.5) (Under-joined_right R law p.0 p.1 p.4
      (joined-small s t v small p)))

  -- and the value is under each file that has all of them under it
  pub Value-least : (t : JoinTree (List ℕ)) (v F : List ℕ) → IsSmall R t → ((x : List ℕ) → Takes t x → Under R x F)
      → Value R t v → Under R v F
  Value-least (leaf x) v F small each p = each v p
  Value-least (node s t) v F small each p =
      subst (λ (z : List ℕ). Under R z F) (sym p.5)
      (Under-least R law p.0 p.1 F p.4 (joined-small s t v small p)
      (Value-least s p.0 F small.0 (λ x h. each x (inl h)) p.2)
      (Value-least t p.1 F small.1 (λ x h. each x (inr h)) p.3))

  -- files that are under one file have a value in each tree that meets no size
  pub Value-exists : (t : JoinTree (List ℕ)) (F : List ℕ) → IsSmall R t → ((x : List ℕ) → Takes t x → Under R x F)
      → (v : List ℕ) × Value R t v
  Value-exists (leaf x) F small each = (x, refl)
  Value-exists (node s t) F small each =
      let p = Value-exists s F small.0 (λ x h. each x (inl h)) in
      let q = Value-exists t F small.1 (λ x h. each x (inr h)) in
      let can = CanJoin-under R law p.0 q.0 F (Value-least s p.0 F small.0 (λ x h. each x (inl h)) p.1)
      (Value-least t q.0 F small.1 (λ x h. each x (inr h)) q.1)
      (Value-small s p.0 small.0 p.1) (Value-small t q.0 small.1 q.1) in
      (joined R p.0 q.0, (p.0, q.0, p.1, q.1, can, refl))

  -- two trees over the same files that meet no size have values of one content
  pub Value-same : (s t : JoinTree (List ℕ)) (z : List ℕ) → IsSmall R s → IsSmall R t
      → ((x : List ℕ) → Takes s x → IsCut R x) → ((x : List ℕ) → Takes s x → Takes t x)
      → ((x : List ℕ) → Takes t x → Takes s x)
      → Value R s z → (v : List ℕ) × Value R t v × (content_of_all R v ≡ content_of_all R z)
  Value-same s t z ss st each to from p =
      let up = Value-above s z ss each p in
      let q = Value-exists t z st (λ x h. up x (from x h)) in
      let below = Value-least t q.0 z st (λ x h. up x (from x h)) q.1 in
      let above = Value-least s z q.0 ss (λ x h. Value-above t q.0 st (λ y k. each y (from y k)) q.1 x (to x h)) p in
      (q.0, q.1, content_of_all-mutual R law q.0 z below above)

  -- the value of a join is the file of its content
  pub Value-file : (s t : JoinTree (List ℕ)) (v : List ℕ) → IsSmall R (node s t) → Value R (node s t) v
      → R.file (content_of_all R v) ≡ v
  Value-file s t v small p =
      ap (λ (y : List ℕ). R.file (content_of_all R y)) p.5
      ∙ ap R.file (content_of_all-joined R law p.0 p.1 p.4 (joined-small s t v small p)) ∙ sym p.5

  -- that of a tree over current files is current
  pub Value-current : (t : JoinTree (List ℕ)) (v : List ℕ) → IsSmall R t → ((x : List ℕ) → Takes t x → IsCurrent R x)
      → Value R t v → IsCurrent R v
  Value-current (leaf x) v small each p = each v p
  Value-current (node s t) v small each p =
      subst (IsCurrent R) (sym p.5) (IsCurrent-joined R law p.0 p.1 p.4 (joined-small s t v small p))

  -- a tree of cuts of one font has as its value the cut for the union
  pub Value-cuts : (F : List ℕ) → R.fault F ≡ None → (t : JoinTree Wanted) → IsSmall R (cuts R F t)
      → Value R (cuts R F t) (cut R F (union_in t))
  Value-cuts F h (leaf A) small = refl
  Value-cuts F h (node s t) small =
      let p = Value-cuts F h s small.0 in
      let q = Value-cuts F h t small.1 in
      let sp = Value-small _ _ small.0 p in
      let sq = Value-small _ _ small.1 q in (
        cut R F (union_in s),
        cut R F (union_in t),
        p,
        q,
        CanJoin-cuts R law F h (union_in s) (union_in t) _ _ (inl refl) (inl refl) sp sq,
        sym (joined-cuts R law F h (union_in s) (union_in t) _ _ (inl refl) (inl refl) sp sq),
      )

  decide : (x y : List ℕ) → IsCut R x → IsCut R y → Agree (content_of_all R x) (content_of_all R y)
      ⊎ (¬ Agree (content_of_all R x) (content_of_all R y))
  decide x y cx cy =
      Agree-decided _ _ (IsClosed-whole R law x cx.accepted) (IsClosed-whole R law y cy.accepted)
      (law.same_sequences x y cx.accepted cy.accepted)

  -- where a part of a tree stops, the tree does
  first_stops : (s t : JoinTree (List ℕ)) → Differs R s ⊎ Overflows R s → Differs R (node s t) ⊎ Overflows R (node s t)
  first_stops s t (inl d) = inl (inl d)
  first_stops s t (inr d) = inr (inl d)

  second_stops : (s t : JoinTree (List ℕ)) → Differs R t ⊎ Overflows R t → Differs R (node s t) ⊎ Overflows R (node s t)
  second_stops s t (inl d) = inl (inr (inl d))
  second_stops s t (inr d) = inr (inr (inl d))

  misfit_some : (x y : List ℕ) (slot : ℕ) → misfit_of R x y ≡ Some slot → misfit_of R x y ≡ None → ⊥
  misfit_some x y slot h e = let n : None ≡ Some slot = sym e ∙ h in cc

  -- a tree that meets no size has a value, or it meets a difference or a table that has no room
  pub Value-or_stops : (t : JoinTree (List ℕ)) → IsSmall R t → ((x : List ℕ) → Takes t x → IsCut R x)
      → ((v : List ℕ) × Value R t v) ⊎ (Differs R t ⊎ Overflows R t)
  Value-or_stops (leaf x) small each = inl (x, refl)
  Value-or_stops (node s t) small each =
      elim (Value-or_stops s small.0 (λ x h. each x (inl h))) [
        | inr d ↦ inr (first_stops s t d)
        | inl p ↦ elim (Value-or_stops t small.1 (λ x h. each x (inr h))) [
          | inr d ↦ inr (second_stops s t d)
          | inl q ↦
              let cp = Value-cut s p.0 small.0 (λ x h. each x (inl h)) p.1 in
              let cq = Value-cut t q.0 small.1 (λ x h. each x (inr h)) q.1 in
              elim (decide p.0 q.0 cp cq) [
                | inl a ↦ elim (cases_option (misfit_of R p.0 q.0)) [
                  | inl fit ↦ inl (
                    joined R p.0 q.0,
                    (
                      p.0,
                      q.0,
                      p.1,
                      q.1,
                      record { first = cp; second = cq; agree = a; fit = fit },
                      refl,
                    ),
                  )
                  | inr w ↦ inr (inr (inr (inr (p.0, q.0, p.1, q.1, (cp, cq, a, misfit_some p.0 q.0 w.0 w.1)))))
                ]
                | inr n ↦ inr (inl (inr (inr (p.0, q.0, p.1, q.1, (cp, cq, n)))))
              ]
        ]
      ]

  -- no tree meets a table that has no room, where each has
  pub Overflows-none : ((K : Content) → R.misfit K ≡ None) → (t : JoinTree (List ℕ)) → ¬ Overflows R t
  Overflows-none all (leaf x) d = d
  Overflows-none all (node s t) (inl d) = Overflows-none all s d
  Overflows-none all (node s t) (inr (inl d)) = Overflows-none all t d
  Overflows-none all (node s t) (inr (inr d)) = d.4.3 (all (both (content_of_all R d.0) (content_of_all R d.1)))

  -- where the value of one tree and a file cannot be joined, each tree over at least these files that meets no size
  -- meets a difference or a table that has no room
  pub Stops-clash : (s t : JoinTree (List ℕ)) → IsSmall R s → IsSmall R t → ((x : List ℕ) → Takes t x → IsCut R x)
      → ((x : List ℕ) → Takes s x → Takes t x)
      → (x y : List ℕ) → Value R s x → Takes t y → IsCut R x → IsCut R y
      → ¬ (Agree (content_of_all R x) (content_of_all R y) × (misfit_of R x y ≡ None)) → Differs R t ⊎ Overflows R t
  Stops-clash s t ss small each to x y p h cx cy apart =
      elim (Value-or_stops t small each) [
        | inr d ↦ d
        | inl q ↦
            let up = Value-above t q.0 small each q.1 in
            let ux = Value-least s x q.0 ss (λ z k. up z (to z k)) p in
            let uy = up y h in
            let sx = law.accepted_size x cx.accepted in
            let sy = law.accepted_size y cy.accepted in
            absurd (apart (Agree-under R law x y q.0 ux uy sx sy, misfit-under R law x y q.0 ux uy sx sy))
      ]

-- the union of a tree has what some set in it has, seen through any test that sees both in a union
module _ (has : Wanted → ℕ → Bool)
    (sees : (V W : Wanted) (c : ℕ) → has (either_wanted V W) c ≡ (has V c || has W c)) where
  union_in-tells : (t : JoinTree Wanted) (c : ℕ) → has (union_in t) c ≡ true
      → (A : Wanted) × Takes t A × (has A c ≡ true)
  union_in-tells (leaf A) c h = (A, refl, h)
  union_in-tells (node s t) c h =
      elim (or_cases (has (union_in s) c) (has (union_in t) c) (sym (sees (union_in s) (union_in t) c) ∙ h)) [
        | inl e ↦ let w = union_in-tells s c e in (w.0, inl w.1, w.2)
        | inr e ↦ let w = union_in-tells t c e in (w.0, inr w.1, w.2)
      ]

  union_in-has : (t : JoinTree Wanted) (c : ℕ) (A : Wanted) → Takes t A → has A c ≡ true → has (union_in t) c ≡ true
  union_in-has (leaf B) c A h e = sym (ap (λ V. has V c) h) ∙ e
  union_in-has (node s t) c A (inl h) e = sees (union_in s) (union_in t) c
      ∙ or_left (has (union_in s) c) (has (union_in t) c) (union_in-has s c A h e)
  union_in-has (node s t) c A (inr h) e = sees (union_in s) (union_in t) c
      ∙ or_right (has (union_in s) c) (has (union_in t) c) (union_in-has t c A h e)

  union_seen : (s t : JoinTree Wanted) → ((A : Wanted) → Takes s A → Takes t A)
      → ((A : Wanted) → Takes t A → Takes s A) → (c : ℕ) → has (union_in s) c ≡ has (union_in t) c
  union_seen s t to from c = go (has (union_in s) c) (has (union_in t) c) refl refl
    where
      go : (a b : Bool) → has (union_in s) c ≡ a → has (union_in t) c ≡ b → has (union_in s) c ≡ has (union_in t) c
      go true b x y = x ∙ sym (let w = union_in-tells s c x in union_in-has t c w.0 (to w.0 w.1) w.2)
      go false true x y = (let w = union_in-tells t c y in union_in-has s c w.0 (from w.0 w.1) w.2) ∙ sym y
      go false false x y = x ∙ sym y

-- so trees that take the same sets have one union
pub union_in-same : (s t : JoinTree Wanted) → ((A : Wanted) → Takes s A → Takes t A)
    → ((A : Wanted) → Takes t A → Takes s A) → union_in s ≡ union_in t
union_in-same s t to from = λ i. record {
  codes = λ c. union_seen (λ V. V.codes) (λ V W c. refl) s t to from c i;
  glyphs = λ g. union_seen (λ V. V.glyphs) (λ V W c. refl) s t to from g i;
}
