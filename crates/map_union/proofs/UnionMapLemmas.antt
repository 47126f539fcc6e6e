-- The map of a union in two lists of runs, and how many groups it has at most.
use Rattle.std.proofs.Common.{◌≡◌, ◌≢◌, ℕ, zero, suc, ◌+◌, ◌<◌, ◌≤◌, ◌&&◌, eqb, List, [], ◌∷◌, length, refl, sym, ap}
use Rattle.std.proofs.Common.{◌∙◌, subst, arith, inl, inr}
use Rattle.std.proofs.Math.Path.{fun_ext}
use Rattle.std.proofs.lemmas.Bool.{and_cases, and_parts, cases_eq, cases_lt, cond_both, eqb-false, eqb-true}
use Rattle.codes.specs.CharacterMap.{AreCompatible, IsCharacterMap, united}
use Rattle.codes.specs.Runs.{groups_among, groups_from, spelled, with_code}
use Rattle.codes.specs.declared.runs.Run.{Run}
use Rattle.codes.proofs.MapLemmas.{united-map, united-none, united-some, united-united}
use Rattle.map_union.specs.RunLists.{AreMapRuns, AreTwoLists, TwoLists, map_in}
use Rattle.map_union.proofs.RunListLemmas.{runs_are}

-- groups of the codes from one on begin there with its glyph, or above it
abbrev Begins : (ℕ → ℕ) → ℕ → List Run → Type 0
Begins m c [] = Unit {0}
Begins m c (run ∷ runs) = (c ≤ run.first) × (run.first ≡ c → run.glyph ≡ m c)

begins_with : (m : ℕ → ℕ) (c x : ℕ) (runs : List Run) → x ≡ m c → Begins m (c + 1) runs
    → Begins m c (with_code c x runs)
begins_with m c zero [] e h = h
begins_with m c zero (run ∷ runs) e h = (omega (arith, h.0), λ q. absurd (omega (arith, h.0, q)))
begins_with m c (suc g) [] e h = (omega arith, λ _. e)
begins_with m c (suc g) (run ∷ runs) e h =
    cond_both (eqb run.first (c + 1) && eqb run.glyph (suc g + 1)) (record { first = c; last = run.last; glyph = suc g }
    ∷ runs) (record { first = c; last = c; glyph = suc g } ∷ run ∷ runs)
    (λ (l : List Run). Begins m c l) (λ t. (omega arith, λ _. e)) (λ f. (omega arith, λ _. e))

begins : (m : ℕ → ℕ) (c n : ℕ) → Begins m c (groups_among m c n)
unfolding groups_among
begins m c zero = tt
begins m c (suc n) = begins_with m c (m c) (groups_among m (c + 1) n) refl (begins m (c + 1) n)

-- a code in front of groups makes one more of them at most, and none fewer
with_code-length : (c x : ℕ) (runs : List Run) → (length runs ≤ length (with_code c x runs))
    × (length (with_code c x runs) ≤ suc (length runs))
with_code-length c zero runs = (omega arith, omega arith)
with_code-length c (suc g) [] = (omega arith, omega arith)
with_code-length c (suc g) (run ∷ runs) =
    cond_both (eqb run.first (c + 1) && eqb run.glyph (suc g + 1)) (record { first = c; last = run.last; glyph = suc g }
    ∷ runs) (record { first = c; last = c; glyph = suc g } ∷ run ∷ runs)
    (λ (l : List Run). (suc (length runs) ≤ length l) × (length l ≤ suc (suc (length runs))))
    (λ t. (omega arith, omega arith)) (λ f. (omega arith, omega arith))

-- one more where the next code does not go on
with_code-apart : (m : ℕ → ℕ) (c g : ℕ) (runs : List Run) → Begins m (c + 1) runs → m (c + 1) ≢ suc g + 1
    → length (with_code c (suc g) runs) ≡ suc (length runs)
with_code-apart m c g [] h n = refl
with_code-apart m c g (run ∷ runs) h n =
    cond_both (eqb run.first (c + 1) && eqb run.glyph (suc g + 1)) (record { first = c; last = run.last; glyph = suc g }
    ∷ runs) (record { first = c; last = c; glyph = suc g } ∷ run ∷ runs)
    (λ (l : List Run). length l ≡ suc (suc (length runs)))
    (λ t. let both = and_parts _ _ t in absurd (n (sym (h.1 (eqb-true _ _ both.0)) ∙ eqb-true _ _ both.1)))
    (λ f. refl)

-- and none where it goes on
with_code-on : (c g : ℕ) (run : Run) (runs : List Run) → run.first ≡ c + 1 → run.glyph ≡ suc g + 1
    → length (with_code c (suc g) (run ∷ runs)) ≡ suc (length runs)
with_code-on c g run runs first glyph =
    cond_both (eqb run.first (c + 1) && eqb run.glyph (suc g + 1)) (record { first = c; last = run.last; glyph = suc g }
    ∷ runs) (record { first = c; last = c; glyph = suc g } ∷ run ∷ runs)
    (λ (l : List Run). length l ≡ suc (length runs))
    (λ t. refl)
    (λ f. elim (and_cases (eqb run.first (c + 1)) (eqb run.glyph (suc g + 1)) f) [
      | inl a ↦
          absurd (eqb-false _ _ a first)
      | inr b ↦ absurd (eqb-false _ _ b glyph)
    ])

with_code-twice : (c g : ℕ) (runs : List Run) → length (with_code c (suc g) (with_code (c + 1) (suc (suc g)) runs))
    ≡ length (with_code (c + 1) (suc (suc g)) runs)
with_code-twice c g [] = with_code-on c g (record { first = c + 1; last = c + 1; glyph = suc (suc g) }) [] refl
    (omega arith)
with_code-twice c g (run ∷ runs) =
    cond_both (eqb run.first (c + 1 + 1) && eqb run.glyph (suc (suc g) + 1)) (record {
      first = c + 1;
      last = run.last;
      glyph = suc (suc g);
    } ∷ runs) (record { first = c + 1; last = c + 1; glyph = suc (suc g) } ∷ run ∷ runs)
    (λ (l : List Run). length (with_code c (suc g) l) ≡ length l)
    (λ t. with_code-on c g (record { first = c + 1; last = run.last; glyph = suc (suc g) }) runs refl (omega arith))
    (λ f. with_code-on c g (record { first = c + 1; last = c + 1; glyph = suc (suc g) }) (run ∷ runs) refl
    (omega arith))

-- how many groups the codes from one on have
abbrev count : (ℕ → ℕ) → ℕ → ℕ → ℕ
count m c n = length (groups_among m c n)

record IsStep (m : ℕ → ℕ) (c n : ℕ) : Type 0 where
  fewer : count m (c + 1) n ≤ count m c (suc n)
  most : count m c (suc n) ≤ suc (count m (c + 1) n)
  none : m c ≡ 0 → count m c (suc n) ≡ count m (c + 1) n
  apart : 0 < m c → m (c + 1) ≢ m c + 1 → count m c (suc n) ≡ suc (count m (c + 1) n)
  on : 0 < m c → m (c + 1) ≡ m c + 1 → 0 < n → count m c (suc n) ≡ count m (c + 1) n

on_step : (m : ℕ → ℕ) (c n x y : ℕ) → x ≡ m c → y ≡ m (c + 1) → 0 < x → y ≡ x + 1 → 0 < n
    → length (with_code c x (groups_among m (c + 1) n)) ≡ count m (c + 1) n
unfolding groups_among
on_step m c zero x y ex ey some next more = absurd (omega (arith, more))
on_step m c (suc n) zero y ex ey some next more = absurd (omega (arith, some))
on_step m c (suc n) (suc g) y ex ey some next more =
    let e : m (c + 1) ≡ suc (suc g) = sym ey ∙ next ∙ omega arith in
    subst (λ (z : ℕ). length (with_code c (suc g) (with_code (c + 1) z (groups_among m (c + 1 + 1) n)))
    ≡ length (with_code (c + 1) z (groups_among m (c + 1 + 1) n))) (sym e)
    (with_code-twice c g (groups_among m (c + 1 + 1) n))

apart_step : (m : ℕ → ℕ) (c n x : ℕ) → x ≡ m c → 0 < x → m (c + 1) ≢ x + 1
    → length (with_code c x (groups_among m (c + 1) n)) ≡ suc (count m (c + 1) n)
apart_step m c n zero e some other = absurd (omega (arith, some))
apart_step m c n (suc g) e some other = with_code-apart m c g (groups_among m (c + 1) n) (begins m (c + 1) n) other

steps : (m : ℕ → ℕ) (c n : ℕ) → IsStep m c n
unfolding groups_among
steps m c n =
    let bounds = with_code-length c (m c) (groups_among m (c + 1) n) in
    record {
      fewer = bounds.0;
      most = bounds.1;
      none = λ e. ap (λ (x : ℕ). length (with_code c x (groups_among m (c + 1) n))) e;
      apart = λ some other. apart_step m c n (m c) refl some other;
      on = λ some next more. on_step m c n (m c) (m (c + 1)) refl refl some next more;
    }

-- a union has no more groups than both maps together
module _ (m k : ℕ → ℕ) (okm : IsCharacterMap m) (okk : IsCharacterMap k) (agree : AreCompatible m k) where
  abbrev U : ℕ → ℕ
  U = united m k

  -- the union goes on where the map does that decides
  on_first : (c : ℕ) → 0 < m c → m (c + 1) ≡ m c + 1 → U (c + 1) ≡ U c + 1
  on_first c some next =
      let here : U c ≡ m c = united-some m k c some in
      let there : U (c + 1) ≡ m (c + 1) = united-some m k (c + 1) (omega (arith, next)) in
      omega (arith, here, there, next)

  on_second : (c : ℕ) → m c ≡ 0 → 0 < k c → k (c + 1) ≡ k c + 1 → U (c + 1) ≡ U c + 1
  on_second c none some next =
      let here : U c ≡ k c = united-none m k c none in
      let there : U (c + 1) ≡ k (c + 1) = elim (cases_lt 0 (m (c + 1))) [
        | inl x ↦ united-some m k (c + 1) x ∙ agree (c + 1) x (omega (arith, next))
        | inr x ↦ let z : m (c + 1) ≡ 0 = omega (arith, x) in united-none m k (c + 1) z
      ] in
      omega (arith, here, there, next)

  -- a code is below the last one where the next is mapped
  more_codes : (c n : ℕ) → c + suc n ≡ 0x110000 → 0 < U (c + 1) → 0 < n
  more_codes c zero e some = let z : U (c + 1) ≡ 0 = (united-map m k okm okk).codes (c + 1) (omega (arith, e)) in
      absurd (omega (arith, z, some))
  more_codes c (suc n) e some = omega arith

  groups_both : (n c : ℕ) → c + n ≡ 0x110000 → count U c n ≤ count m c n + count k c n
  unfolding groups_among
  groups_both zero c e = omega arith
  groups_both (suc n) c e =
      let rest = groups_both n (c + 1) (omega (arith, e)) in
      let u = steps U c n in
      let v = steps m c n in
      let w = steps k c n in
      elim (cases_lt 0 (m c)) [
        | inl some ↦ elim (cases_eq (m (c + 1)) (m c + 1)) [
          | inl next ↦
              let up : U (c + 1) ≡ U c + 1 = on_first c some next in
              let here : U c ≡ m c = united-some m k c some in
              let same = u.on (omega (arith, here, some)) up (more_codes c n e (omega (arith, up))) in
              omega (arith, same, rest, v.fewer, w.fewer)
          | inr other ↦ let one = v.apart some other in omega (arith, one, rest, u.most, w.fewer)
        ]
        | inr low ↦
            let none : m c ≡ 0 = omega (arith, low) in
            let here : U c ≡ k c = united-none m k c none in
            elim (cases_lt 0 (k c)) [
              | inl some ↦ elim (cases_eq (k (c + 1)) (k c + 1)) [
                | inl next ↦
                    let up : U (c + 1) ≡ U c + 1 = on_second c none some next in
                    let same = u.on (omega (arith, here, some)) up (more_codes c n e (omega (arith, up))) in
                    omega (arith, same, rest, v.fewer, w.fewer)
                | inr other ↦ let one = w.apart some other in omega (arith, one, rest, u.most, v.fewer)
              ]
              | inr least ↦ let same = u.none (omega (arith, here, least)) in
                  omega (arith, same, rest, v.fewer, w.fewer)
            ]
      ]

  pub groups_united : length (groups_from (united m k) 0) ≤ length (groups_from m 0) + length (groups_from k 0)
  unfolding groups_from
  groups_united = groups_both 0x110000 0 (omega arith)

-- so two lists bound the groups of the map
pub most_groups : (lists : TwoLists) → AreTwoLists lists → length (groups_from (map_in lists) 0) ≤ length lists.settled
    + length lists.recent
most_groups lists ok =
    let all = groups_united (spelled lists.settled) (spelled lists.recent) ok.settled.map ok.recent.map ok.agree in
    omega (arith, all, ap length (runs_are lists.settled ok.settled), ap length (runs_are lists.recent ok.recent))

-- no codes, and the map of one list
pub no_codes : IsCharacterMap (λ _. 0)
no_codes = record { codes = λ c x. refl; glyphs = λ c. omega arith }

united_nothing : (m : ℕ → ℕ) → united m (λ _. 0) ≡ m
united_nothing m = fun_ext (λ c. elim (cases_lt 0 (m c)) [
  | inl x ↦ united-some m (λ _. 0) c x
  | inr x ↦ let z : m c ≡ 0 = omega (arith, x) in united-none m (λ _. 0) c z ∙ sym z
])

pub one_list : (runs : List Run) → map_in (record { settled = runs; recent = [] }) ≡ spelled runs
one_list runs = united_nothing (spelled runs)

nothing_before : (m : ℕ → ℕ) → united (λ _. 0) m ≡ m
nothing_before m = fun_ext (λ c. united-none (λ _. 0) m c refl)

-- nothing and then some runs
pub spells_first : (recent runs : List Run) → recent ≡ [] → spelled runs ≡ united (spelled recent) (spelled runs)
spells_first recent runs e = sym (ap (λ (rs : List Run). united (spelled rs) (spelled runs)) e
    ∙ nothing_before (spelled runs))

pub empty_list : AreMapRuns []
empty_list = record { map = no_codes; are = λ c x. refl }

pub are_one_list : (runs : List Run) → AreMapRuns runs → AreTwoLists (record { settled = runs; recent = [] })
are_one_list runs ok = record { settled = ok; recent = empty_list; agree = λ c x y. absurd (omega (arith, y)) }

-- two lists with more runs, which are merged with the second
module _ (lists : TwoLists) (runs recent : List Run) (ok : AreTwoLists lists) (agree : AreCompatible (map_in lists)
    (spelled runs)) (spells : spelled recent ≡ united (spelled lists.recent) (spelled runs)) where
  pub recent_map : map_in (record { settled = lists.settled; recent = recent }) ≡ united (map_in lists) (spelled runs)
  recent_map = ap (united (spelled lists.settled)) spells
      ∙ sym (united-united (spelled lists.settled) (spelled lists.recent) (spelled runs))

  settled_agree : (c : ℕ) → 0 < spelled lists.settled c → 0 < spelled recent c
      → spelled lists.settled c ≡ spelled recent c
  settled_agree c x y =
      let at : spelled recent c ≡ united (spelled lists.recent) (spelled runs) c = ap (λ (m : ℕ → ℕ). m c) spells in
      let whole : map_in lists c ≡ spelled lists.settled c =
      united-some (spelled lists.settled) (spelled lists.recent) c x in
      elim (cases_lt 0 (spelled lists.recent c)) [
        | inl some ↦ ok.agree c x some ∙ sym (united-some (spelled lists.recent) (spelled runs) c some) ∙ sym at
        | inr low ↦
            let none : spelled lists.recent c ≡ 0 = omega (arith, low) in
            let is : spelled recent c ≡ spelled runs c = at ∙ united-none (spelled lists.recent) (spelled runs) c
            none in
            sym whole ∙ agree c (omega (arith, whole, x)) (omega (arith, is, y)) ∙ sym is
      ]

  pub are_recent : AreMapRuns recent → AreTwoLists (record { settled = lists.settled; recent = recent })
  are_recent are = record { settled = ok.settled; recent = are; agree = settled_agree }
