-- The slots by place.
use Rattle.std.proofs.Common.{◌≡◌, ℕ, ◌<◌, true, eqb, get_or, ltb, refl}
use Rattle.std.proofs.lemmas.Bool.{agree_below_at, eqb-true, ltb-true}
use Rattle.sfnt_bytes.specs.Directory.{slot_at}
use Rattle.sfnt_bytes.specs.declared.tag.TheConstants.{ALL_SLOTS, IN_ORDER}

pub slot_at_low : (place : ℕ) → place < ALL_SLOTS → slot_at place < ALL_SLOTS
unfolding slot_at
slot_at_low place low =
    ltb-true _ _ (agree_below_at (λ i. ltb (slot_at i) ALL_SLOTS) (λ _. true) ALL_SLOTS place refl low)

pub slot_at-is : (place : ℕ) → place < ALL_SLOTS → get_or IN_ORDER place 0 ≡ slot_at place
unfolding slot_at
slot_at-is place low =
    eqb-true _ _ (agree_below_at (λ i. eqb (get_or IN_ORDER i 0) (slot_at i)) (λ _. true) ALL_SLOTS place refl low)
