-- Restrictions and unions of character maps.
use Rattle.std.proofs.Common.{◌≡◌, ℕ, ◌<◌, ◌&&◌, ◌||◌, Bool, true, false, cond, nat_eq, ap, ◌∙◌, refl, arith, inl, inr}
use Rattle.std.proofs.lemmas.Bool.{cases_lt}
use Rattle.std.proofs.lemmas.Bool.Decides.{nat_tests}
use Rattle.codes.specs.CharacterMap.{AreCompatible, IsCharacterMap, restricted, united}

pub restricted_map : (w : ℕ → Bool) (m : ℕ → ℕ) → IsCharacterMap m → IsCharacterMap (restricted w m)
restricted_map w m h =
    record {
      codes = λ c x. zero_or (w c) (m c) (h.codes c x);
      glyphs = λ c. small_or (w c) (m c) (h.glyphs c);
    }
  where
    zero_or : (b : Bool) (x : ℕ) → x ≡ 0 → cond b x 0 ≡ 0
    zero_or true x e = e
    zero_or false x e = refl

    small_or : (b : Bool) (x : ℕ) → x < 65536 → cond b x 0 < 65536
    small_or true x l = l
    small_or false x l = omega arith

pub united-none : (m k : ℕ → ℕ) (c : ℕ) → m c ≡ 0 → united m k c ≡ k c
united-none m k c e = let yes : nat_eq (m c) 0 ≡ true = grind (arith, nat_tests) in
    ap (λ (b : Bool). cond b (k c) (m c)) yes

pub united-some : (m k : ℕ → ℕ) (c : ℕ) → 0 < m c → united m k c ≡ m c
united-some m k c l = let no : nat_eq (m c) 0 ≡ false = grind (arith, nat_tests) in
    ap (λ (b : Bool). cond b (k c) (m c)) no

pub united-map : (m k : ℕ → ℕ) → IsCharacterMap m → IsCharacterMap k → IsCharacterMap (united m k)
united-map m k h l =
    record {
      codes = λ c x. united-none m k c (h.codes c x) ∙ l.codes c x;
      glyphs = λ c. elim (cases_lt 0 (m c)) [
        | inl x ↦ omega (arith, united-some m k c x, h.glyphs c)
        | inr x ↦ let z : m c ≡ 0 = omega arith in omega (arith, united-none m k c z, l.glyphs c)
      ];
    }

-- on one code
restricted_twice : (a b : Bool) (x : ℕ) → cond a (cond b x 0) 0 ≡ cond (a && b) x 0
restricted_twice true b x = refl
restricted_twice false b x = refl

pub same_cond : (b : Bool) (x : ℕ) → cond b x x ≡ x
same_cond true x = refl
same_cond false x = refl

united_parts : (a b : Bool) (x : ℕ) → cond (nat_eq (cond a x 0) 0) (cond b x 0) (cond a x 0) ≡ cond (a || b) x 0
united_parts true true x = same_cond (nat_eq x 0) x
united_parts true false x = grind (arith, nat_tests)
united_parts false b x = refl

restricted_part : (a : Bool) (x y : ℕ) → cond a (cond (nat_eq x 0) y x) 0 ≡ cond (nat_eq (cond a x 0) 0) (cond a y 0)
    (cond a x 0)
restricted_part true x y = refl
restricted_part false x y = refl

united_thrice : (x y z : ℕ) → cond (nat_eq (cond (nat_eq x 0) y x) 0) z (cond (nat_eq x 0) y x)
    ≡ cond (nat_eq x 0) (cond (nat_eq y 0) z y) x
united_thrice x y z = grind (arith, nat_tests)

either_way : (x y : ℕ) → (0 < x → 0 < y → x ≡ y) → cond (nat_eq x 0) y x ≡ cond (nat_eq y 0) x y
either_way x y h =
    elim (cases_lt 0 x) [
      | inl p ↦ elim (cases_lt 0 y) [
        | inl q ↦ let e = h p q in grind (arith, nat_tests)
        | inr q ↦ grind (arith, nat_tests)
      ]
      | inr p ↦ grind (arith, nat_tests)
    ]

-- on all codes
pub restricted-restricted : (v w : ℕ → Bool) (m : ℕ → ℕ) → restricted v (restricted w m) ≡ restricted (λ c. v c && w c)
    m
restricted-restricted v w m = λ i c. restricted_twice (v c) (w c) (m c) i

pub united-restricted : (v w : ℕ → Bool) (m : ℕ → ℕ) → united (restricted v m) (restricted w m)
    ≡ restricted (λ c. v c || w c) m
united-restricted v w m = λ i c. united_parts (v c) (w c) (m c) i

pub restricted-united : (w : ℕ → Bool) (m k : ℕ → ℕ)
    → restricted w (united m k) ≡ united (restricted w m) (restricted w k)
restricted-united w m k = λ i c. restricted_part (w c) (m c) (k c) i

pub united-same : (m : ℕ → ℕ) → united m m ≡ m
united-same m = λ i c. same_cond (nat_eq (m c) 0) (m c) i

pub united-united : (m k l : ℕ → ℕ) → united (united m k) l ≡ united m (united k l)
united-united m k l = λ i c. united_thrice (m c) (k c) (l c) i

pub united-swapped : (m k : ℕ → ℕ) → AreCompatible m k → united m k ≡ united k m
united-swapped m k h = λ i c. either_way (m c) (k c) (h c) i
