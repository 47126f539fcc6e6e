-- Trees of joins, and what they come to, this project's own.
use Rattle.std.specs.Prelude.{◌≡◌, ◌≢◌, ℕ, zero, suc, ◌<◌, ◌≤◌, false, ◌⊎◌, List, [], length, get_or, None}
use Rattle.font_theory.specs.Cut.{CanJoin, Format, IsCut, cut, joined, content_of_all, misfit_of}
use Rattle.font_theory.specs.Agreement.{Agree}
use Rattle.font_theory.specs.Content.{Wanted, either_wanted, of_codes}

-- a tree of joins
pub data JoinTree (A : Type 0) : Type 0 where
  leaf : A → JoinTree A
  node : JoinTree A → JoinTree A → JoinTree A

-- v is the value of the tree
abbrev pub Value : Format → JoinTree (List ℕ) → List ℕ → Type 0
Value R (leaf x) v = v ≡ x
Value R (node s t) v =
    (x : List ℕ) × (y : List ℕ) × Value R s x × Value R t y × CanJoin R x y × (v ≡ joined R x y)

-- no value in the tree is too large
abbrev pub IsSmall : Format → JoinTree (List ℕ) → Type 0
IsSmall R (leaf x) = length x ≤ R.limit
IsSmall R (node s t) = IsSmall R s × IsSmall R t × ((v : List ℕ) → Value R (node s t) v → length v ≤ R.limit)

-- two files in cut form differ
abbrev pub Clash : Format → List ℕ → List ℕ → Type 0
Clash R x y = IsCut R x × IsCut R y × ¬ Agree (content_of_all R x) (content_of_all R y)

-- the tree meets a difference
abbrev pub Differs : Format → JoinTree (List ℕ) → Type 0
Differs R (leaf x) = ⊥
Differs R (node s t) =
    Differs R s ⊎ (Differs R t ⊎ ((x : List ℕ) × (y : List ℕ) × Value R s x × Value R t y × Clash R x y))

-- two files in cut form agree, and some table has no room for what both have in it
abbrev pub Overflow : Format → List ℕ → List ℕ → Type 0
Overflow R x y =
    IsCut R x × IsCut R y × Agree (content_of_all R x) (content_of_all R y) × (misfit_of R x y ≢ None)

-- the tree meets such
abbrev pub Overflows : Format → JoinTree (List ℕ) → Type 0
Overflows R (leaf x) = ⊥
Overflows R (node s t) =
    Overflows R s ⊎ (Overflows R t ⊎ ((x : List ℕ) × (y : List ℕ) × Value R s x × Value R t y × Overflow R x y))

-- a is taken in the tree
abbrev pub Takes : {A : Type 0} → JoinTree A → A → Type 0
Takes (leaf x) a = a ≡ x
Takes (node s t) a = Takes s a ⊎ Takes t a

-- file k of a list
abbrev pub file_at : List (List ℕ) → ℕ → List ℕ
file_at files k = get_or files k []

-- the tree takes the files of a list, each at least once, and no others
pub record IsOver (files : List (List ℕ)) (t : JoinTree (List ℕ)) : Type 0 where
  pub each : (k : ℕ) → k < length files → Takes t (file_at files k)
  pub only : (x : List ℕ) → Takes t x → (k : ℕ) × (k < length files) × (x ≡ file_at files k)

-- the tree that grows file by file, after k joins of which the first is that of the first file with itself
abbrev pub grown : List (List ℕ) → ℕ → JoinTree (List ℕ)
grown files zero = leaf (file_at files 0)
grown files (suc k) = node (grown files k) (leaf (file_at files k))

-- the cuts of a file for the sets in a tree
abbrev pub cuts : Format → List ℕ → JoinTree Wanted → JoinTree (List ℕ)
cuts R F (leaf A) = leaf (cut R F A)
cuts R F (node s t) = node (cuts R F s) (cuts R F t)

-- what all in a tree want
abbrev pub union_in : JoinTree Wanted → Wanted
union_in (leaf A) = A
union_in (node s t) = either_wanted (union_in s) (union_in t)

-- what the first n of some want
abbrev pub union_below : (ℕ → Wanted) → ℕ → Wanted
union_below A zero = of_codes (λ _. false)
union_below A (suc n) = either_wanted (union_below A n) (A n)
