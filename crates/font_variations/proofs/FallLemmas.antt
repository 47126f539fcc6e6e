-- Offsets that fall, as a list says it and as a loop counts it.
use Rattle.std.proofs.Common.{◌≡◌, ℕ, zero, suc, ◌+◌, Bool, ltb, ◌||◌, List, refl, sym, ap, ◌∙◌, arith}
use Rattle.std.specs.List.{list_any, range_with_len}
use Rattle.std.proofs.Math.Bool.{or-false, or_assoc}
use Rattle.font_tables.specs.Outlines.{falls, offset_at}
use Rattle.font_tables.specs.declared.loca.LocaForm.{LocaForm}

-- the last number of a range
any_more : (p : ℕ → Bool) (a n : ℕ) → list_any p (range_with_len a (suc n))
    ≡ (list_any p (range_with_len a n) || p (a + n))
any_more p a zero = let here : a ≡ a + 0 = omega arith in or-false (p a) ∙ ap p here
any_more p a (suc n) =
    let there : a + 1 + n ≡ a + suc n = omega arith in
    ap (λ (b : Bool). p a || b) (any_more p (a + 1) n) ∙ sym (or_assoc (p a) _ _)
    ∙ ap (λ (k : ℕ). p a || list_any p (range_with_len (a + 1) n) || p k) there

-- an offset is above the next one
abbrev pub any_fall : LocaForm → List ℕ → ℕ → Bool
any_fall form offsets n =
    list_any (λ j. ltb (offset_at form offsets (j + 1)) (offset_at form offsets j)) (range_with_len 0 n)

pub falls_is_any : (form : LocaForm) (offsets : List ℕ) (n : ℕ) → falls form offsets n ≡ any_fall form offsets n
unfolding falls
falls_is_any form offsets zero = refl
falls_is_any form offsets (suc n) =
    let here : 0 + n ≡ n = omega arith in
    let before = falls_is_any form offsets n in
    (λ i. before i || ltb (offset_at form offsets (n + 1)) (offset_at form offsets n))
    ∙ ap (λ (k : ℕ). any_fall form offsets n || ltb (offset_at form offsets (k + 1)) (offset_at form offsets k))
    (sym here)
    ∙ sym (any_more (λ j. ltb (offset_at form offsets (j + 1)) (offset_at form offsets j)) 0 n)
