-- What chains of links lead to, and that rounds over the numbers below a limit find it.
use Rattle.std.proofs.Common.{◌≡◌, ℕ, zero, suc, ◌<◌, ◌⊎◌, Bool, true, ◌&&◌, nat_eq, inl, inr, List, [], ◌∷◌}
use Rattle.std.proofs.Common.{arith}
use Rattle.std.specs.Bool.{Decides}
use Rattle.std.specs.List.{Contains, list_any}
use Rattle.std.proofs.lemmas.Bool.{or_cases, or_left, or_right, and_parts, eqb-true, eq-eqb}
use Rattle.font_glyph.specs.Linked.{IsLinkClosed, Linked, is_among, is_linked}
use Rattle.font_glyph.specs.Linked.Linked.{start, link}
use Rattle.font_glyph.proofs.FoundLemmas.{any_decides, at, fixed_in_time, from_start, one_more}

any_among : (links : List ℕ) (g : ℕ) → list_any (λ h. nat_eq h g) links ≡ true → Contains links g
any_among [] g h = cc
any_among (x ∷ links) g h =
    elim (or_cases (nat_eq x g) _ h) [
      | inl e ↦ (0, omega arith, eqb-true x g e)
      | inr e ↦ let w = any_among links g e in (suc w.0, omega (arith, w.1), w.2)
    ]

among_any : (links : List ℕ) (g : ℕ) → Contains links g → list_any (λ h. nat_eq h g) links ≡ true
among_any [] g (k, l, e) = absurd (omega (arith, l))
among_any (x ∷ links) g (zero, l, e) = or_left _ _ (eq-eqb x g e)
among_any (x ∷ links) g (suc k, l, e) = or_right (nat_eq x g) _ (among_any links g (k, omega (arith, l), e))

pub is_among-decides : (links : List ℕ) (g : ℕ) → Decides (is_among links g) (Contains links g)
unfolding is_among
is_among-decides links g = (any_among links g, among_any links g)

-- what is led to lies in each set that has the seeds and the links of its numbers
pub Linked-within : (links : ℕ → List ℕ) (seeds : ℕ → Bool) (limit : ℕ) (has : ℕ → Bool)
    → IsLinkClosed links seeds limit (λ g. has g ≡ true) → (g : ℕ) → Linked links seeds limit g → has g ≡ true
Linked-within links seeds limit has closed g (start h) = closed.has_seeds g h
Linked-within links seeds limit has closed g (link {s = s} r low c) =
    closed.has_links s g low (Linked-within links seeds limit has closed s r) c

pub Linked-closed : (links : ℕ → List ℕ) (seeds : ℕ → Bool) (limit : ℕ)
    → IsLinkClosed links seeds limit (Linked links seeds limit)
Linked-closed links seeds limit = record { has_seeds = λ g h. start h; has_links = λ s g low r c. link r low c }

-- more seeds lead to no less
pub Linked-more : (links : ℕ → List ℕ) (limit : ℕ) (s t : ℕ → Bool) → ((g : ℕ) → s g ≡ true → t g ≡ true) → (g : ℕ)
    → Linked links s limit g → Linked links t limit g
Linked-more links limit s t more g (start h) = start (more g h)
Linked-more links limit s t more g (link {s = x} r low c) = link (Linked-more links limit s t more x r) low c

-- each chain begins at one seed
pub Linked-split : (links : ℕ → List ℕ) (limit : ℕ) (all s t : ℕ → Bool) → ((g : ℕ) → all g ≡ true → (s g ≡ true)
    ⊎ (t g ≡ true)) → (g : ℕ) → Linked links all limit g
    → Linked links s limit g ⊎ Linked links t limit g
Linked-split links limit all s t either g (start h) = elim (either g h) [
  | inl e ↦ inl (start e)
  | inr e ↦
      inr (start e)
]
Linked-split links limit all s t either g (link {s = x} r low c) =
    elim (Linked-split links limit all s t either x r) [ inl h ↦ inl (link h low c) | inr h ↦ inr (link h low c) ]

module _ (links : ℕ → List ℕ) (seeds : ℕ → Bool) (limit : ℕ) where
  abbrev leads : ℕ → ℕ → Bool
  leads s = is_among (links s)

  found-sound : (k g : ℕ) → at leads seeds limit k g ≡ true → Linked links seeds limit g
  found-sound zero g h = start h
  found-sound (suc k) g h =
      elim (or_cases _ _ h) [
        | inl e ↦ found-sound k g e
        | inr e ↦
            let w : (s : ℕ) × (s < limit) × ((at leads seeds limit k s && leads s g) ≡ true) =
            (any_decides _ limit).0 e in
            let both = and_parts _ _ w.2 in
            link (found-sound k w.0 both.0) w.1 ((is_among-decides (links w.0) g).0 both.1)
      ]

  found-complete : (g : ℕ) → Linked links seeds limit g → at leads seeds limit (suc (suc limit)) g ≡ true
  found-complete g (start h) = from_start leads seeds limit (suc (suc limit)) g h
  found-complete g (link {s = s} r low c) =
      one_more leads seeds limit (suc limit) s g low (fixed_in_time leads seeds limit s low (found-complete s r))
      ((is_among-decides (links s) g).1 c)

  pub is_linked-decides : (g : ℕ) → Decides (is_linked links seeds limit g) (Linked links seeds limit g)
  unfolding is_linked
  is_linked-decides g = (found-sound (suc (suc limit)) g, found-complete g)
