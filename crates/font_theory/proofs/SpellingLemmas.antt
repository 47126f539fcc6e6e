-- The groups of a map spell it, whatever its glyphs.
use Rattle.std.proofs.Common.{◌≡◌, ℕ, zero, suc, ◌+◌, ◌-◌, ◌<◌, ◌≤◌, ◌&&◌, cond, eqb, nat_le, Bool, List, [], ◌∷◌, refl}
use Rattle.std.proofs.Common.{sym, ap, ◌∙◌, arith, inl, inr}
use Rattle.std.proofs.lemmas.Bool.{and_parts, cases_eq, cond_both, eq-eqb, eqb-true, ne_eqb}
use Rattle.std.proofs.lemmas.Bool.Decides.{nat_tests}
use Rattle.codes.specs.CharacterMap.{clipped}
use Rattle.codes.specs.Runs.{groups_among, groups_from, spelled, with_code}
use Rattle.codes.specs.declared.runs.Run.{Run}
use Rattle.font_theory.specs.Content.{CODES, Content, IsWritable, glyph_count}
use Rattle.font_theory.specs.File.{groups_of_content}

-- the first group has a code
abbrev IsStarted : List Run → Type 0
IsStarted [] = Unit {0}
IsStarted (run ∷ runs) = run.first ≤ run.last

is_started-with_code : (c x : ℕ) (runs : List Run) → IsStarted runs → IsStarted (with_code c x runs)
is_started-with_code c zero runs h = h
is_started-with_code c (suc g) [] h = omega arith
is_started-with_code c (suc g) (run ∷ runs) h =
    cond_both (eqb run.first (c + 1) && eqb run.glyph (suc g + 1)) (record { first = c; last = run.last; glyph = suc g }
    ∷ runs) (record { first = c; last = c; glyph = suc g } ∷ run ∷ runs)
    IsStarted (λ t. let both = and_parts _ _ t in let e = eqb-true run.first (c + 1) both.0 in
    omega arith) (λ f. omega arith)

-- what a group in front spells
spelled_one : (c g : ℕ) (d rest : ℕ) → cond (nat_le c d && nat_le d c) (g + (d - c)) rest ≡ cond (eqb d c) g rest
spelled_one c g d rest = grind (arith, nat_tests)

spelled_joined : (c g first last d rest : ℕ) → first ≡ c + 1 → first ≤ last
    → cond (nat_le c d && nat_le d last) (suc g + (d - c)) rest ≡ cond (eqb d c) (suc g)
    (cond (nat_le first d && nat_le d last) (suc g + 1 + (d - first)) rest)
spelled_joined c g first last d rest next order = grind (arith, nat_tests)

nothing_at : (c d : ℕ) (x : ℕ) (runs : List Run) → spelled runs c ≡ 0 → x ≡ spelled runs d
    → x ≡ cond (eqb d c) 0 (spelled runs d)
nothing_at c d x runs none is = elim (cases_eq d c) [
  | inl e ↦ let t = eq-eqb d c e in rw t (is ∙ ap (spelled runs) e ∙ none)
  | inr ne ↦ let f = ne_eqb d c ne in rw f is
]

spelled-with_code : (c x : ℕ) (runs : List Run) (d : ℕ) → IsStarted runs → spelled runs c ≡ 0
    → spelled (with_code c x runs) d ≡ cond (eqb d c) x (spelled runs d)
spelled-with_code c zero runs d h none = nothing_at c d (spelled runs d) runs none refl
spelled-with_code c (suc g) [] d h none = spelled_one c (suc g) d 0
spelled-with_code c (suc g) (run ∷ runs) d h none =
    cond_both (eqb run.first (c + 1) && eqb run.glyph (suc g + 1)) (record { first = c; last = run.last; glyph = suc g }
    ∷ runs) (record { first = c; last = c; glyph = suc g } ∷ run ∷ runs)
    (λ (l : List Run). spelled l d ≡ cond (eqb d c) (suc g) (spelled (run ∷ runs) d))
    (λ t.
    let both = and_parts _ _ t in
    let next = eqb-true run.first (c + 1) both.0 in
    let up : run.glyph ≡ suc g + 1 = eqb-true run.glyph (suc g + 1) both.1 in
    spelled_joined c g run.first run.last d (spelled runs d) next h
    ∙ ap (λ (n : ℕ). cond (eqb d c) (suc g) (cond (nat_le run.first d && nat_le d run.last) (n + (d - run.first))
    (spelled runs d))) (sym up))
    (λ f. spelled_one c (suc g) d (spelled (run ∷ runs) d))

is_started-groups_among : (m : ℕ → ℕ) (c n : ℕ) → IsStarted (groups_among m c n)
unfolding groups_among
is_started-groups_among m c zero = tt
is_started-groups_among m c (suc n) =
    is_started-with_code c (m c) (groups_among m (c + 1) n) (is_started-groups_among m (c + 1) n)

-- codes outside, and codes inside
spelled_outside : (m : ℕ → ℕ) (c n d : ℕ) → d < c → spelled (groups_among m c n) d ≡ 0
unfolding groups_among
spelled_outside m c zero d below = refl
spelled_outside m c (suc n) d below =
    let f = ne_eqb d c (λ e. omega arith) in
    spelled-with_code c (m c) (groups_among m (c + 1) n) d (is_started-groups_among m (c + 1) n)
    (spelled_outside m (c + 1) n c (omega arith))
    ∙ ap (λ (b : Bool). cond b (m c) (spelled (groups_among m (c + 1) n) d)) f
    ∙ spelled_outside m (c + 1) n d (omega arith)

spelled_inside : (m : ℕ → ℕ) (c n d : ℕ) → c ≤ d → ((k : ℕ) → c + n ≤ k → m k ≡ 0) → spelled (groups_among m c n) d
    ≡ m d
unfolding groups_among
spelled_inside m c zero d from none = sym (none d (omega arith))
spelled_inside m c (suc n) d from none =
    spelled-with_code c (m c) (groups_among m (c + 1) n) d (is_started-groups_among m (c + 1) n)
    (spelled_outside m (c + 1) n c (omega arith))
    ∙ elim (cases_eq d c) [
      | inl e ↦ let t = eq-eqb d c e in ap (λ (b : Bool). cond b (m c) (spelled (groups_among m (c + 1) n) d)) t
          ∙ ap m (sym e)
      | inr ne ↦ let f = ne_eqb d c ne in ap (λ (b : Bool). cond b (m c) (spelled (groups_among m (c + 1) n) d)) f
          ∙ spelled_inside m (c + 1) n d (omega arith) (λ k past. none k (omega arith))
    ]

pub spelled-groups_from : (m : ℕ → ℕ) (d : ℕ) → ((c : ℕ) → 0x110000 ≤ c → m c ≡ 0) → spelled (groups_from m 0) d ≡ m d
unfolding groups_from
spelled-groups_from m d none = spelled_inside m 0 (0x110000 - 0) d (omega arith) (λ c past. none c (omega arith))

-- the code points end at 0x10FFFF
pub codes_are : CODES ≡ 0x110000
unfolding CODES
codes_are = refl

-- the glyphs below the number of them are left as they are
clipped-fits : (n : ℕ) (m : ℕ → ℕ) (c : ℕ) → m c < n → (0x110000 ≤ c → m c ≡ 0) → clipped n m c ≡ m c
clipped-fits n m c fits none = grind (arith, nat_tests)

-- the groups of a content spell its map
pub spelled-groups_of : (K : Content) → IsWritable K → clipped (glyph_count K.copied) (spelled (groups_of_content K))
    ≡ K.map
unfolding groups_of_content
spelled-groups_of K ok =
    let none : (c : ℕ) → 0x110000 ≤ c → K.map c ≡ 0 = λ c past. ok.mapped_codes c (let e = codes_are in omega arith) in
    let same : spelled (groups_from K.map 0) ≡ K.map = λ i c. spelled-groups_from K.map c none i in
    ap (clipped (glyph_count K.copied)) same
    ∙ (λ i c. clipped-fits (glyph_count K.copied) K.map c (ok.mapped_below c) (none c) i)
