-- What is left of a room.
use Rattle.std.proofs.Common.{◌≡◌, ℕ, ◌+◌, ◌-◌, true, false, Bool, cond, leb, ◌&&◌, Option, None, Some, refl, sym, ap}
use Rattle.std.proofs.Common.{◌∙◌, arith}
use Rattle.std.proofs.Common.{inl, inr}
use Rattle.std.proofs.lemmas.Bool.{cases_lt, le-leb, leb-true, lt-leb}
use Rattle.colour_readers.proofs.PickLemmas.{same_tests}

-- what is left of a room
abbrev pub left_after : ℕ → ℕ → Option ℕ
left_after size room = cond (leb size room) (Some (room - size)) None

pub after_both : (a s room : ℕ) → cond (leb a room) (left_after s (room - a)) None ≡ left_after (a + s) room
after_both a s room = elim (cases_lt room a) [
  | inl l ↦
      ap (λ b. cond b (left_after s (room - a)) None) (lt-leb a room l)
      ∙ sym (ap (λ b. cond b (Some (room - (a + s))) None) (lt-leb (a + s) room (omega (arith, l))))
  | inr h ↦
      let fits : leb s (room - a) ≡ leb (a + s) room =
      same_tests _ _
      (λ t. le-leb (a + s) room (omega (arith, h, leb-true s (room - a) t)))
      (λ t. le-leb s (room - a) (omega (arith, h, leb-true (a + s) room t))) in
      let left : room - a - s ≡ room - (a + s) = omega arith in
      ap (λ b. cond b (left_after s (room - a)) None) (le-leb a room h)
      ∙ (λ i. cond (fits i) (Some (left i)) None)
]

pub no_matter : {X : Type 0} (b : Bool) (x : X) → cond b x x ≡ x
no_matter true x = refl
no_matter false x = refl

pub split : (p all : Bool) (a s room : ℕ) (rest : Option ℕ) → rest ≡ cond all (left_after s (room - a)) None
    → cond (p && leb a room) rest None ≡ cond (p && all) (left_after (a + s) room) None
split false all a s room rest e = refl
split true false a s room rest e = ap (λ o. cond (leb a room) o None) e ∙ no_matter (leb a room) None
split true true a s room rest e = ap (λ o. cond (leb a room) o None) e ∙ after_both a s room
