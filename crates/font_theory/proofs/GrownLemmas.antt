-- Trees that grow file by file, and the other trees over the same files.
use Rattle.std.proofs.Common.{◌≡◌, ℕ, zero, suc, ◌<◌, ◌≤◌, ◌⊎◌, inl, inr, List, None, length, refl, sym, ◌∙◌, ap}
use Rattle.std.proofs.Common.{subst, arith}
use Rattle.std.proofs.Math.Bool.{or_self}
use Rattle.std.proofs.lemmas.Bool.{cases_eq}
use Rattle.font_theory.specs.Content.{Wanted, content, either_wanted}
use Rattle.font_theory.specs.Cut.{CanJoin, Format, IsCurrent, IsCut, IsFormat, Writes, cut, joined}
use Rattle.font_theory.specs.Cut.{content_of_all, misfit_of}
use Rattle.font_theory.specs.Agreement.{Agree}
use Rattle.font_theory.specs.Tree.{Differs, IsOver, IsSmall, JoinTree, Takes, Value, cuts, file_at, grown, union_below}
use Rattle.font_theory.specs.Tree.{Overflows, union_in}
use Rattle.font_theory.specs.Tree.JoinTree.{leaf}
use Rattle.font_theory.proofs.CutLemmas.{CanJoin-cuts, joined-cuts, content_of_all-cut}
use Rattle.font_theory.proofs.TreeLemmas.{Stops-clash, Value-current, Value-cut, Value-cuts, Value-file, Value-one}
use Rattle.font_theory.proofs.TreeLemmas.{Value-same, Value-small}

-- what one joins with itself stays one set
pub either-once : (A : ℕ → Wanted) → either_wanted (A 0) (A 0) ≡ union_below A 1
either-once A = λ i. record {
  codes = λ c. or_self ((A 0).codes c) i;
  glyphs = λ g. or_self ((A 0).glyphs g) i;
}

module _ (R : Format) (law : IsFormat R) (files : List (List ℕ)) where
  -- each file that was joined is in cut form
  pub grown-cut : (n : ℕ) (v : List ℕ) → Value R (grown files n) v → (k : ℕ) → k < n → IsCut R (file_at files k)
  grown-cut zero v p k low = absurd (omega arith)
  grown-cut (suc n) v p k low =
      elim (cases_eq k n) [
        | inl e ↦ subst (λ (i : ℕ). IsCut R (file_at files i)) (sym e) (subst (IsCut R) p.3 p.4.second)
        | inr other ↦ grown-cut n p.0 p.2 k (omega arith)
      ]

  -- no value on the way is too large where the last one is not
  pub grown-small : (n : ℕ) (v : List ℕ) → Value R (grown files n) v → length v ≤ R.limit → IsSmall R (grown files n)
  grown-small zero v p small = subst (λ (x : List ℕ). length x ≤ R.limit) p small
  grown-small (suc n) v p small = (
    grown-small n p.0 p.2 (law.accepted_size p.0 p.4.first.accepted),
    subst (λ (x : List ℕ). length x ≤ R.limit) p.3 (law.accepted_size p.1 p.4.second.accepted),
    λ w q. subst (λ (x : List ℕ). length x ≤ R.limit) (Value-one R law (grown files (suc n)) v w p q) small,
  )

  takes-only : (n : ℕ) (x : List ℕ) → Takes (grown files n) x → 0 < length files → n ≤ length files → (k : ℕ)
      × (k < length files) × (x ≡ file_at files k)
  takes-only zero x e some low = (0, some, e)
  takes-only (suc n) x (inl t) some low = takes-only n x t some (omega arith)
  takes-only (suc n) x (inr e) some low = let low' : n < length files = omega arith in (n, low', e)

  takes-each : (n k : ℕ) → k < n → Takes (grown files n) (file_at files k)
  takes-each zero k low = absurd (omega arith)
  takes-each (suc n) k low = elim (cases_eq k n) [
    | inl e ↦ inr (ap (file_at files) e)
    | inr other ↦
        inl (takes-each n k (omega arith))
  ]

  -- the tree that has grown over all files is a tree over them
  pub IsOver-grown : 0 < length files → IsOver files (grown files (length files))
  IsOver-grown some =
      record { each = takes-each (length files); only = λ x h. takes-only (length files) x h some (omega arith) }

  takes-over : (t : JoinTree (List ℕ)) → IsOver files t → (n : ℕ) → 0 < length files → n ≤ length files → (x : List ℕ)
      → Takes (grown files n) x → Takes t x
  takes-over t over n some low x h = let w = takes-only n x h some low in subst (Takes t) (sym w.2) (over.each w.0 w.1)

  cut-over : (t : JoinTree (List ℕ)) → IsOver files t → ((k : ℕ) → k < length files → IsCut R (file_at files k))
      → (x : List ℕ) → Takes t x → IsCut R x
  cut-over t over forms x h = let w = over.only x h in subst (IsCut R) (sym w.2) (forms w.0 w.1)

  -- two trees over the same files in cut form that meet no size have values of one content
  pub Value-over : (s t : JoinTree (List ℕ)) (z : List ℕ) → IsOver files s → IsOver files t
      → ((k : ℕ) → k < length files → IsCut R (file_at files k))
      → IsSmall R s → IsSmall R t → Value R s z → (v : List ℕ) × Value R t v × (content_of_all R v ≡ content_of_all R z)
  Value-over s t z over also forms small small' p =
      Value-same R law s t z small small' (cut-over s over forms)
      (λ x h. let w = over.only x h in subst (Takes t) (sym w.2) (also.each w.0 w.1))
      (λ x h. let w = also.only x h in subst (Takes s) (sym w.2) (over.each w.0 w.1))
      p

  -- each tree over all files that meets no size has a value of the content of the tree that has grown, whose
  -- value is the file of it
  module _ (some : 0 < length files) (z : List ℕ) (p : Value R (grown files (length files)) z) (small : length z
      ≤ R.limit) where
    value-of_content : (n : ℕ) → n ≡ length files → Value R (grown files n) z → R.file (content_of_all R z) ≡ z
    value-of_content zero e q = absurd (omega arith)
    value-of_content (suc n) e q =
        Value-file R law (grown files n) (leaf (file_at files n)) z (grown-small (suc n) z q small) q

    pub Value-grown : (t : JoinTree (List ℕ)) → IsOver files t → IsSmall R t → (v : List ℕ) × Value R t v
        × (content_of_all R v ≡ content_of_all R z) × (R.file (content_of_all R v) ≡ z)
    Value-grown t over few =
        let q = Value-over (grown files (length files)) t z (IsOver-grown some) over (grown-cut (length files) z p)
        (grown-small (length files) z p small) few p in
        (q.0, q.1, q.2, ap R.file q.2 ∙ value-of_content (length files) refl p)

    -- over current files that value is the same file
    pub Value-grown_same : ((k : ℕ) → k < length files → IsCurrent R (file_at files k)) → (t : JoinTree (List ℕ))
        → IsOver files t → IsSmall R t → Value R t z
    Value-grown_same forms t over few =
        let q = Value-grown t over few in
        let each : (x : List ℕ) → Takes t x → IsCurrent R x = λ x h. let w = over.only x h in
        subst (IsCurrent R) (sym w.2) (forms w.0 w.1) in
        let writing = Value-current R law t q.0 few each q.1 in
        subst (Value R t) (sym writing.written ∙ q.3) q.1

    -- a tree over cuts of one font has that same value
    pub Value-grown_cuts : (F : List ℕ) → R.fault F ≡ None → (t : JoinTree Wanted) → IsOver files (cuts R F t)
        → IsSmall R (cuts R F t) → Value R (cuts R F t) z
    Value-grown_cuts F h t over few =
        let q = Value-cuts R law F h t few in
        let v = Value-grown (cuts R F t) over few in
        let e : v.0 ≡ cut R F (union_in t) = Value-one R law (cuts R F t) _ _ v.1 q in
        let s = Value-small R law (cuts R F t) (cut R F (union_in t)) few q in
        let w = content_of_all-cut R law F h (union_in t) (cut R F (union_in t)) (inl refl) s in
        subst (Value R (cuts R F t)) (sym (ap R.file w) ∙ ap (λ (x : List ℕ). R.file (content_of_all R x)) (sym e)
        ∙ v.3) q

  -- where a tree that grows meets a difference or a table that has no room, each tree over all files meets one
  pub Stops-grown : ((k : ℕ) → k < length files → IsCut R (file_at files k)) → (k : ℕ) → k < length files
      → (x : List ℕ) → Value R (grown files k) x → length x ≤ R.limit
      → ¬ (Agree (content_of_all R x) (content_of_all R (file_at files k)) × (misfit_of R x (file_at files k) ≡ None))
      → (t : JoinTree (List ℕ)) → IsOver files t → IsSmall R t → Differs R t ⊎ Overflows R t
  Stops-grown forms k low x p small apart t over few =
      let some : 0 < length files = omega arith in
      let upto : k ≤ length files = omega arith in
      let to = takes-over t over k some upto in
      let ss = grown-small k x p small in
      let writing = Value-cut R law (grown files k) x ss (λ y h. cut-over t over forms y (to y h)) p in
      Stops-clash R law (grown files k) t ss few (cut-over t over forms) to x (file_at files k) p (over.each k low)
      writing (forms k low) apart

  -- cuts of one font, in any forms, grow to its cut for all their sets
  module _ (F : List ℕ) (h : R.fault F ≡ None) (A : ℕ → Wanted)
      (are : (k : ℕ) → k < length files → Writes R (content (R.font F) (A k)) (file_at files k)) (few : (k : ℕ)
      → k < length files → length (file_at files k) ≤ R.limit) where
    step : (B : Wanted) (k : ℕ) → k < length files → (x : List ℕ) → Writes R (content (R.font F) B) x
        → length x ≤ R.limit
        → CanJoin R x (file_at files k) × (joined R x (file_at files k) ≡ cut R F (either_wanted B (A k)))
    step B k low x w small = (
      CanJoin-cuts R law F h B (A k) x (file_at files k) w (are k low) small (few k low),
      joined-cuts R law F h B (A k) x (file_at files k) w (are k low) small (few k low),
    )

    first_step : 0 < length files → (x : List ℕ) → x ≡ file_at files 0 → length x ≤ R.limit
        → CanJoin R x (file_at files 0) × (joined R x (file_at files 0) ≡ cut R F (union_below A 1))
    first_step some x p small = let w =
        step (A 0) 0 some x (subst (Writes R (content (R.font F) (A 0))) (sym p) (are 0 some)) small in
        (w.0, w.1 ∙ ap (cut R F) (either-once A))

    pub grown-cuts : (k : ℕ) → k < length files → (v : List ℕ) → Value R (grown files (suc k)) v
        → v ≡ cut R F (union_below A (suc k))
    grown-cuts zero low v p = p.5 ∙ ap (joined R p.0) p.3
        ∙ (first_step low p.0 p.2 (law.accepted_size p.0 p.4.first.accepted)).1
    grown-cuts (suc k) low v p =
        p.5 ∙ ap (joined R p.0) p.3
        ∙ (step (union_below A (suc k)) (suc k) low p.0 (inl (sym (grown-cuts k (omega arith) p.0 p.2)))
        (law.accepted_size p.0 p.4.first.accepted)).1

    -- and at each step the two can be joined
    pub grown-joins : (k : ℕ) → k < length files → (x : List ℕ) → Value R (grown files k) x → length x ≤ R.limit
        → CanJoin R x (file_at files k) × (joined R x (file_at files k) ≡ cut R F (union_below A (suc k)))
    grown-joins zero low x p small = first_step low x p small
    grown-joins (suc k) low x p small =
        step (union_below A (suc k)) (suc k) low x (inl (sym (grown-cuts k (omega arith) x p))) small
