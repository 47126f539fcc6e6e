-- What chains of components reach, and that rounds over the numbers below a count find it.
use Rattle.std.proofs.Common.{◌≡◌, ℕ, zero, suc, ◌<◌, Bool, true, ◌&&◌, nat_eq, inl, inr, List, [], ◌∷◌, Option, Some}
use Rattle.std.proofs.Common.{None, refl, sym, subst, arith}
use Rattle.std.specs.Bool.{Decides}
use Rattle.std.specs.List.{Contains, list_any}
use Rattle.std.specs.Option.{unwrap_or}
use Rattle.std.proofs.lemmas.Bool.{or_cases, or_left, or_right, and_parts, eqb-true, eq-eqb}
use Rattle.font_glyph.specs.declared.component.Component.{Component}
use Rattle.font_glyph.specs.Record.{components_of, glyphs_of}
use Rattle.font_glyph.specs.Reach.{IsClosed, IsComponentOf, Reach, found_within, names, reached}
use Rattle.font_glyph.specs.Reach.Reach.{seed, part}
use Rattle.font_glyph.proofs.FoundLemmas.{any_decides, at, fixed_in_time, from_start, one_more}
use Rattle.font_glyph.proofs.RecordLemmas.{components_of-is, components_of-tells}

-- what is reached lies in each set that has the seeds and the components of its numbers
pub Reach-within : (records : ℕ → List ℕ) (seeds has : ℕ → Bool) → IsClosed records seeds (λ g. has g ≡ true) → (g : ℕ)
    → Reach records seeds g → has g ≡ true
Reach-within records seeds has closed g (seed h) = closed.has_seeds g h
Reach-within records seeds has closed g (part {s = s} r c) =
    closed.has_parts s g (Reach-within records seeds has closed s r) c

pub Reach-closed : (records : ℕ → List ℕ) (seeds : ℕ → Bool) → IsClosed records seeds (Reach records seeds)
Reach-closed records seeds = record { has_seeds = λ g h. seed h; has_parts = λ s g r c. part r c }

-- records that are the same where something is reached reach the same
pub Reach-to : (p q : ℕ → List ℕ) (seeds : ℕ → Bool) → ((g : ℕ) → Reach p seeds g → q g ≡ p g) → (g : ℕ)
    → Reach p seeds g → Reach q seeds g
Reach-to p q seeds same g (seed h) = seed h
Reach-to p q seeds same g (part {s = s} r c) =
    part (Reach-to p q seeds same s r) (subst (λ (b : List ℕ). IsComponentOf b g) (sym (same s r)) c)

pub Reach-from : (p q : ℕ → List ℕ) (seeds : ℕ → Bool) → ((g : ℕ) → Reach p seeds g → q g ≡ p g) → (g : ℕ)
    → Reach q seeds g → Reach p seeds g
Reach-from p q seeds same g (seed h) = seed h
Reach-from p q seeds same g (part {s = s} r c) =
    let back = Reach-from p q seeds same s r in
    part back (subst (λ (b : List ℕ). IsComponentOf b g) (same s back) c)

-- the test of a list is that it contains a number
any_glyph : (list : List Component) (g : ℕ) → list_any (λ c. nat_eq c.glyph g) list ≡ true → Contains (glyphs_of list) g
any_glyph [] g h = cc
any_glyph (c ∷ list) g h =
    elim (or_cases (nat_eq c.glyph g) _ h) [
      | inl e ↦ (0, omega arith, eqb-true c.glyph g e)
      | inr e ↦ let w = any_glyph list g e in (suc w.0, omega (arith, w.1), w.2)
    ]

glyph_any : (list : List Component) (g : ℕ) → Contains (glyphs_of list) g → list_any (λ c. nat_eq c.glyph g) list ≡ true
glyph_any [] g (k, l, e) = absurd (omega (arith, l))
glyph_any (c ∷ list) g (zero, l, e) = or_left _ _ (eq-eqb c.glyph g e)
glyph_any (c ∷ list) g (suc k, l, e) = or_right (nat_eq c.glyph g) _ (glyph_any list g (k, omega (arith, l), e))

pub names_decides : (b : List ℕ) (g : ℕ) → Decides (names b g) (IsComponentOf b g)
unfolding names
names_decides b g = (λ h. to (components_of b) refl h, λ h. from h)
  where
    to : (o : Option (List Component)) → components_of b ≡ o → list_any (λ c. nat_eq c.glyph g) (unwrap_or o []) ≡ true
        → IsComponentOf b g
    to None e h = cc
    to (Some list) e h = record { list = list; is = components_of-tells b list e; among = any_glyph list g h }

    from : IsComponentOf b g → list_any (λ c. nat_eq c.glyph g) (unwrap_or (components_of b) []) ≡ true
    from h = rw (components_of-is b h.list h.is) (glyph_any h.list g h.among)

-- what is found within k steps is reached
reached_within-sound : (records : ℕ → List ℕ) (seeds : ℕ → Bool) (n k g : ℕ)
    → found_within (λ x. names (records x)) seeds n k g ≡ true → Reach records seeds g
reached_within-sound records seeds n zero g h = seed h
reached_within-sound records seeds n (suc k) g h =
    elim (or_cases _ _ h) [
      | inl e ↦ reached_within-sound records seeds n k g e
      | inr e ↦
          let w : (s : ℕ) × (s < n) × ((found_within (λ x. names (records x)) seeds n k s && names (records s) g)
          ≡ true) = (any_decides _ n).0 e in
          let both = and_parts _ _ w.2 in
          part (reached_within-sound records seeds n k w.0 both.0) ((names_decides (records w.0) g).0 both.1)
    ]

module _ (records : ℕ → List ℕ) (seeds : ℕ → Bool) (n : ℕ) (seeds_below : (g : ℕ) → seeds g ≡ true → g < n)
    (parts_below : (s g : ℕ) → s < n → IsComponentOf (records s) g → g < n) where
  -- what is reached is below the count, and found in time
  pub Reach-below : (g : ℕ) → Reach records seeds g → g < n
  Reach-below g (seed h) = seeds_below g h
  Reach-below g (part {s = s} r c) = parts_below s g (Reach-below s r) c

  reached_within-complete : (g : ℕ) → Reach records seeds g → at (λ x. names (records x)) seeds n (suc n) g ≡ true
  reached_within-complete g (seed h) = from_start (λ x. names (records x)) seeds n (suc n) g h
  reached_within-complete g (part {s = s} r c) =
      let low = Reach-below s r in
      fixed_in_time (λ x. names (records x)) seeds n g (parts_below s g low c) (one_more (λ x. names (records x)) seeds
      n (suc n) s g low (reached_within-complete s r) ((names_decides (records s) g).1 c))

  pub reached_decides : (g : ℕ) → Decides (reached records seeds n g) (Reach records seeds g)
  unfolding reached
  reached_decides g = (reached_within-sound records seeds n (suc n) g, reached_within-complete g)
