-- The canonical groups of a map: there are some, no others, and they are its runs.
use Rattle.std.proofs.Common.{◌≡◌, ◌≢◌, ℕ, zero, suc, ◌+◌, ◌-◌, ◌≤◌, ◌<◌, ◌⊎◌, nat_le, Bool, true, false, ◌&&◌, eqb}
use Rattle.std.proofs.Common.{cond, List, [], ◌∷◌, length, refl, sym, ap, ◌∙◌, arith, inl, inr, subst}
use Rattle.std.proofs.lemmas.Bool.{cases_lt, cases_order, cond_both, and_parts, and_cases, eqb-true, eqb-false}
use Rattle.std.proofs.lemmas.Bool.Decides.{nat_tests}
use Rattle.codes.specs.CharacterMap.{IsCharacterMap, restricted}
use Rattle.codes.specs.Runs.{AreApart, AreAscending, AreCanonical, AreRuns, CanonicalGroups, IsPiece, IsRun, NoRun}
use Rattle.codes.specs.Runs.{groups_among, groups_from, spelled, with_code}
use Rattle.codes.specs.declared.runs.Run.{Run}

-- what a run gives its codes
pub run_gives : (m : ℕ → ℕ) (from : ℕ) (run : Run) → IsRun m from run → (c : ℕ) → run.first ≤ c → c ≤ run.last
    → m c ≡ run.glyph + (c - run.first)
run_gives m from run h c x y = omega (arith, h.piece.along c x y, x)

first_mapped : (m : ℕ → ℕ) (from : ℕ) (run : Run) → IsRun m from run → m run.first ≡ run.glyph
first_mapped m from run h = omega (arith, h.piece.along run.first (omega arith) h.piece.order)

-- a run of a character map: its end and its glyphs fit
is_run : (m : ℕ → ℕ) (from : ℕ) (run : Run) → IsCharacterMap m → from ≤ run.first → run.first ≤ run.last
    → ((c : ℕ) → from ≤ c → c < run.first → m c ≡ 0) → 0 < run.glyph → ((c : ℕ) → run.first ≤ c → c ≤ run.last
    → m c + run.first ≡ run.glyph + c) → m (run.last + 1) + run.first ≢ run.glyph + (run.last + 1) → IsRun m from run
is_run m from run ok on order least mapped along longest =
    let last = along run.last order (omega arith) in
    record {
      piece = record {
        from_on = on;
        least = least;
        order = order;
        within = elim (cases_lt run.last 0x110000) [
          | inl x ↦ omega (arith, x)
          | inr x ↦ absurd (omega (arith, ok.codes run.last x, last, mapped, order))
        ];
        mapped = mapped;
        small = omega (arith, ok.glyphs run.last, last, order);
        along = along;
      };
      longest = longest;
    }

-- there is one run from a code on
not_before : (m : ℕ → ℕ) (from : ℕ) (r s : Run) → IsRun m from r → IsRun m from s → r.first ≤ s.first
not_before m from r s h k = elim (cases_lt s.first r.first) [
  | inl less ↦ absurd (omega (
    arith,
    h.piece.least s.first k.piece.from_on less,
    first_mapped m from s k,
    k.piece.mapped,
  ))
  | inr fine ↦ fine
]

not_longer : (m : ℕ → ℕ) (from : ℕ) (r s : Run) → IsRun m from r → IsRun m from s → r.first ≡ s.first
    → r.glyph ≡ s.glyph → s.last ≤ r.last
not_longer m from r s h k e g = elim (cases_lt r.last s.last) [
  | inl less ↦ absurd
      (h.longest (omega (
        arith,
        k.piece.along (r.last + 1) (omega (arith, h.piece.order, e)) (omega (arith, less)),
        e,
        g,
      )))
  | inr fine ↦ fine
]

pub same_run : (m : ℕ → ℕ) (from : ℕ) (r s : Run) → IsRun m from r → IsRun m from s → r ≡ s
same_run m from r s h k =
    let a = not_before m from r s h k in
    let b = not_before m from s r k h in
    let first : r.first ≡ s.first = omega arith in
    let glyph : r.glyph ≡ s.glyph = sym (first_mapped m from r h) ∙ ap m first ∙ first_mapped m from s k in
    let c = not_longer m from r s h k first glyph in
    let d = not_longer m from s r k h (sym first) (sym glyph) in
    let last : r.last ≡ s.last = omega arith in
    λ i. record { first = first i; last = last i; glyph = glyph i }

pub some_run : (m : ℕ → ℕ) (from : ℕ) (run : Run) → IsRun m from run → NoRun m from → ⊥
some_run m from run h none = omega (arith, none run.first h.piece.from_on, first_mapped m from run h, h.piece.mapped)

-- there is one list of runs
pub same_runs : (m : ℕ → ℕ) (from : ℕ) (rs ss : List Run) → AreRuns m from rs → AreRuns m from ss → rs ≡ ss
same_runs m from [] [] h k = refl
same_runs m from [] (s ∷ ss) h k = absurd (some_run m from s k.0 h)
same_runs m from (r ∷ rs) [] h k = absurd (some_run m from r h.0 k)
same_runs m from (r ∷ rs) (s ∷ ss) h k =
    let e = same_run m from r s h.0 k.0 in
    let rest = same_runs m (r.last + 1) rs ss h.1 (subst (λ (g : Run). AreRuns m (g.last + 1) ss) (sym e) k.1) in
    λ i. e i ∷ rest i

-- a code that is not mapped in front
runs-skip : (m : ℕ → ℕ) (c : ℕ) (runs : List Run) → m c ≡ 0 → AreRuns m (c + 1) runs → AreRuns m c runs
runs-skip m c [] none h = λ k le. elim (cases_order c k) [
  | inl same ↦ ap m (sym same) ∙ none
  | inr other ↦
      elim other [ inl less ↦ h k (omega arith) | inr more ↦ absurd (omega arith) ]
]
runs-skip m c (run ∷ runs) none h = (
  record {
    piece = record {
      from_on = omega (arith, h.0.piece.from_on);
      least = λ k le lt. elim (cases_order c k) [
        | inl same ↦ ap m (sym same) ∙ none
        | inr other ↦
            elim other [ inl less ↦ h.0.piece.least k (omega arith) lt | inr more ↦ absurd (omega arith) ]
      ];
      order = h.0.piece.order;
      within = h.0.piece.within;
      mapped = h.0.piece.mapped;
      small = h.0.piece.small;
      along = h.0.piece.along;
    };
    longest = h.0.longest;
  },
  h.1,
)

-- a mapped code where the next one does not go on
single_run : (m : ℕ → ℕ) (c g : ℕ) → IsCharacterMap m → m c ≡ suc g → m (c + 1) ≢ suc g + 1
    → IsRun m c (record { first = c; last = c; glyph = suc g })
single_run m c g ok is apart =
    is_run m c (record { first = c; last = c; glyph = suc g }) ok (omega arith) (omega arith)
    (λ k le lt. absurd (omega arith)) (omega arith)
    (λ k le ge. let same : k ≡ c = omega arith in omega (arith, ap m same, is, same))
    (λ e. apart (omega (arith, e)))

-- a mapped code that joins the first run
longer_run : (m : ℕ → ℕ) (c g : ℕ) (run : Run) → IsCharacterMap m → m c ≡ suc g → run.first ≡ c + 1
    → run.glyph ≡ suc g + 1 → IsRun m (c + 1) run → IsRun m c (record { first = c; last = run.last; glyph = suc g })
longer_run m c g run ok is next up h =
    let o = h.piece.order in
    is_run m c (record { first = c; last = run.last; glyph = suc g }) ok (omega arith) (omega arith)
    (λ k le lt. absurd (omega arith)) (omega arith)
    (λ k le ge. elim (cases_order c k) [
      | inl same ↦ omega (arith, ap m same, is, same)
      | inr other ↦ elim other [
        | inl less ↦ omega (arith, h.piece.along k (omega arith) ge, next, up)
        | inr more ↦ absurd (omega arith)
      ]
    ])
    (λ e. h.longest (omega (arith, e, next, up)))

-- a run whose code in front has the glyph before it
next_is : (m : ℕ → ℕ) (c g : ℕ) (run : Run) → IsRun m (c + 1) run → m (c + 1) ≡ suc g + 1 → (run.first ≡ c + 1)
    × (run.glyph ≡ suc g + 1)
next_is m c g run h e =
    let a = h.piece.from_on in
    let first : run.first ≡ c + 1 = elim (cases_lt (c + 1) run.first) [
      | inl less ↦ absurd (omega (arith, h.piece.least (c + 1) (omega arith) less, e))
      | inr fine ↦ omega arith
    ] in
    (first, sym (first_mapped m (c + 1) run h) ∙ ap m first ∙ e)

-- a code in front of runs gives runs
with_code-runs : (m : ℕ → ℕ) (c : ℕ) (runs : List Run) (x : ℕ) → IsCharacterMap m → m c ≡ x → AreRuns m (c + 1) runs
    → AreRuns m c (with_code c x runs)
with_code-runs m c runs zero ok is h = runs-skip m c runs is h
with_code-runs m c [] (suc g) ok is h = (single_run m c g ok is (λ e. omega (arith, h (c + 1) (omega arith), e)), h)
with_code-runs m c (run ∷ runs) (suc g) ok is h =
    cond_both (eqb run.first (c + 1) && eqb run.glyph (suc g + 1)) (record { first = c; last = run.last; glyph = suc g }
    ∷ runs) (record { first = c; last = c; glyph = suc g } ∷ run ∷ runs)
    (λ (l : List Run). AreRuns m c l)
    (λ t. let both = and_parts _ _ t in (
      longer_run m c g run ok is (eqb-true _ _ both.0) (eqb-true _ _ both.1) h.0,
      h.1,
    ))
    (λ f. (
      single_run m c g ok is (λ e. let n = next_is m c g run h.0 e in
          elim (and_cases (eqb run.first (c + 1)) (eqb run.glyph (suc g + 1)) f) [
            | inl a ↦ eqb-false _ _ a n.0
            | inr b ↦
                eqb-false _ _ b n.1
          ]),
      h,
    ))

-- the groups of n codes, where no code after them is mapped
groups_among-runs : (m : ℕ → ℕ) (c n : ℕ) → IsCharacterMap m → ((k : ℕ) → c + n ≤ k → m k ≡ 0)
    → AreRuns m c (groups_among m c n)
unfolding groups_among
groups_among-runs m c zero ok none = λ k le. none k (omega arith)
groups_among-runs m c (suc n) ok none =
    with_code-runs m c (groups_among m (c + 1) n) (m c) ok refl
    (groups_among-runs m (c + 1) n ok (λ k le. none k (omega arith)))

pub groups_from-runs : (m : ℕ → ℕ) (from : ℕ) → IsCharacterMap m → AreRuns m from (groups_from m from)
unfolding groups_from
groups_from-runs m from ok = groups_among-runs m from (0x110000 - from) ok (λ k le. ok.codes k (omega arith))

-- the groups from a code on are the next run and the groups after it, for those who go from run to run
pub groups_next : (m : ℕ → ℕ) (from : ℕ) (run : Run) → IsCharacterMap m → IsRun m from run → groups_from m from ≡ run
    ∷ groups_from m (run.last + 1)
groups_next m from run ok is = same_runs m from (groups_from m from) (run ∷ groups_from m (run.last + 1))
    (groups_from-runs m from ok) (is, groups_from-runs m (run.last + 1) ok)

pub groups_done : (m : ℕ → ℕ) (from : ℕ) → IsCharacterMap m → NoRun m from → groups_from m from ≡ []
groups_done m from ok none = same_runs m from (groups_from m from) [] (groups_from-runs m from ok) none

-- there are no more groups than codes
with_code-length : (c x : ℕ) (runs : List Run) → length (with_code c x runs) ≤ suc (length runs)
with_code-length c zero runs = omega arith
with_code-length c (suc g) [] = omega arith
with_code-length c (suc g) (run ∷ runs) =
    cond_both (eqb run.first (c + 1) && eqb run.glyph (suc g + 1)) (record { first = c; last = run.last; glyph = suc g }
    ∷ runs) (record { first = c; last = c; glyph = suc g } ∷ run ∷ runs)
    (λ (l : List Run). length l ≤ suc (suc (length runs))) (λ t. omega arith) (λ f. omega arith)

groups_among-length : (m : ℕ → ℕ) (c n : ℕ) → length (groups_among m c n) ≤ n
unfolding groups_among
groups_among-length m c zero = omega arith
groups_among-length m c (suc n) = omega (
  arith,
  with_code-length c (m c) (groups_among m (c + 1) n),
  groups_among-length m (c + 1) n,
)

pub groups_few : (m : ℕ → ℕ) (from : ℕ) → length (groups_from m from) ≤ 0x110000
unfolding groups_from
groups_few m from = omega (arith, groups_among-length m from (0x110000 - from))

-- what groups give a code, by the first of them
pub spelled_in : (run : Run) (runs : List Run) (c : ℕ) → run.first ≤ c → c ≤ run.last
    → spelled (run ∷ runs) c ≡ run.glyph + (c - run.first)
spelled_in run runs c a b =
    let yes : nat_le run.first c && nat_le c run.last ≡ true = grind (arith, nat_tests) in
    ap (λ (t : Bool). cond t (run.glyph + (c - run.first)) (spelled runs c)) yes

pub spelled_out : (run : Run) (runs : List Run) (c : ℕ) → (c < run.first) ⊎ (run.last < c)
    → spelled (run ∷ runs) c ≡ spelled runs c
spelled_out run runs c h =
    let no : nat_le run.first c && nat_le c run.last ≡ false = grind (arith, nat_tests) in
    ap (λ (t : Bool). cond t (run.glyph + (c - run.first)) (spelled runs c)) no

-- runs ascend
runs-ascending : (m : ℕ → ℕ) (from : ℕ) (runs : List Run) → AreRuns m from runs → AreAscending from runs
runs-ascending m from [] h = tt
runs-ascending m from (run ∷ runs) h = (
  h.0.piece.from_on,
  h.0.piece.order,
  h.0.piece.mapped,
  subst (λ (low : ℕ). AreAscending low runs) (omega arith)
      (runs-ascending m (run.last + 1) runs h.1),
)

-- ascending groups give the codes below them nothing
pub spelled_below : (low : ℕ) (runs : List Run) (c : ℕ) → AreAscending low runs → c < low → spelled runs c ≡ 0
spelled_below low [] c o h = refl
spelled_below low (run ∷ runs) c o h =
    spelled_out run runs c (inl (omega (arith, o.0, h)))
    ∙ spelled_below (suc run.last) runs c o.3 (omega (arith, o.0, o.1, h))

-- runs spell their map
runs-spell : (m : ℕ → ℕ) (from : ℕ) (runs : List Run) → AreRuns m from runs → (c : ℕ) → from ≤ c → spelled runs c ≡ m c
runs-spell m from [] h c x = sym (h c x)
runs-spell m from (run ∷ runs) h c x =
    elim (cases_lt c run.first) [
      | inl y ↦ spelled_out run runs c (inl y)
          ∙ spelled_below (run.last + 1) runs c (runs-ascending m (run.last + 1) runs h.1)
          (omega (arith, h.0.piece.order, y)) ∙ sym (h.0.piece.least c x y)
      | inr y ↦ elim (cases_lt run.last c) [
        | inl z ↦ spelled_out run runs c (inr z) ∙ runs-spell m (run.last + 1) runs h.1 c (omega (arith, z))
        | inr z ↦ spelled_in run runs c y z ∙ sym (run_gives m from run h.0 c y z)
      ]
    ]

-- no run goes on from the one before it
runs-apart : (m : ℕ → ℕ) (from : ℕ) (runs : List Run) → AreRuns m from runs → AreApart runs
runs-apart m from [] h = tt
runs-apart m from (run ∷ []) h = tt
runs-apart m from (run ∷ next ∷ runs) h = (
  λ e. h.0.longest (omega (arith, ap m e.0, first_mapped m (run.last + 1) next h.1.0, e.1, h.0.piece.order)),
  runs-apart m (run.last + 1) (next ∷ runs) h.1,
)

-- groups in canonical form are runs
tail_apart : (run : Run) (runs : List Run) → AreApart (run ∷ runs) → AreApart runs
tail_apart run [] a = tt
tail_apart run (next ∷ runs) a = a.1

stops : (low : ℕ) (run : Run) (runs : List Run) → AreAscending low (run ∷ runs) → AreApart (run ∷ runs)
    → spelled runs (run.last + 1) ≡ run.glyph + (run.last - run.first) + 1 → ⊥
stops low run [] o a e = omega (arith, e)
stops low run (next ∷ runs) o a e =
    elim (cases_lt (run.last + 1) next.first) [
      | inl x ↦ omega (
        arith,
        e,
        spelled_below next.first (next ∷ runs) (run.last + 1) (
          omega arith,
          o.3.1,
          o.3.2,
          o.3.3,
        ) x,
      )
      | inr x ↦
          let first : next.first ≡ run.last + 1 = omega (arith, o.3.0, x) in
          a.0 (
            first,
            omega (
              arith,
              e,
              spelled_in next runs (run.last + 1) (omega (arith, first))
                  (omega (arith, first, o.3.1)),
              first,
            ),
          )
    ]

canonical-runs : (m : ℕ → ℕ) (from : ℕ) (runs : List Run) → IsCharacterMap m → AreAscending from runs → AreApart runs
    → ((c : ℕ) → from ≤ c → spelled runs c ≡ m c) → AreRuns m from runs
canonical-runs m from [] ok o a exact = λ c x. sym (exact c x)
canonical-runs m from (run ∷ runs) ok o a exact =
    let above : AreAscending (run.last + 1) runs = subst (λ (low : ℕ). AreAscending low runs) (omega arith) o.3 in
    let rest : (c : ℕ) → run.last + 1 ≤ c → spelled runs c ≡ m c =
    λ c x. sym (spelled_out run runs c (inr (omega (arith, x)))) ∙ exact c (omega (arith, x, o.0, o.1)) in (
      is_run m from run ok o.0 o.1
          (λ c x y. sym (exact c x) ∙ spelled_out run runs c (inl y)
          ∙ spelled_below (run.last + 1) runs c above (omega (arith, y, o.1)))
          o.2
          (λ c x y. omega (arith, exact c (omega (arith, x, o.0)), spelled_in run runs c x y, x))
          (λ e. stops from run runs o a (omega (arith, rest (run.last + 1) (omega arith), e, o.1))),
      canonical-runs m (run.last + 1) runs ok above (tail_apart run runs a) rest,
    )

-- on the codes not below one
ascending-weaker : (low from : ℕ) (runs : List Run) → low ≤ from → AreAscending from runs → AreAscending low runs
ascending-weaker low from [] l o = tt
ascending-weaker low from (run ∷ runs) l o = (omega (arith, l, o.0), o.1, o.2, o.3)

restricted-below : (m : ℕ → ℕ) (from c : ℕ) → c < from → restricted (nat_le from) m c ≡ 0
restricted-below m from c h = let no : nat_le from c ≡ false = grind (arith, nat_tests) in
    ap (λ (b : Bool). cond b (m c) 0) no

restricted-above : (m : ℕ → ℕ) (from c : ℕ) → from ≤ c → restricted (nat_le from) m c ≡ m c
restricted-above m from c h = let yes : nat_le from c ≡ true = grind (arith, nat_tests) in
    ap (λ (b : Bool). cond b (m c) 0) yes

runs-canonical : (m : ℕ → ℕ) (from : ℕ) (runs : List Run) → AreRuns m from runs
    → AreCanonical (restricted (nat_le from) m) runs
runs-canonical m from runs h =
    let ascending = runs-ascending m from runs h in
    record {
      ascending = ascending-weaker 0 from runs (omega arith) ascending;
      exact = λ c. elim (cases_lt c from) [
        | inl x ↦ spelled_below from runs c ascending x ∙ sym (restricted-below m from c x)
        | inr x ↦ runs-spell m from runs h c x ∙ sym (restricted-above m from c x)
      ];
      apart = runs-apart m from runs h;
    }

-- the law
pub canonical : (m : ℕ → ℕ) → IsCharacterMap m → CanonicalGroups m
canonical m ok =
    let runs = groups_from-runs m 0 ok in
    record {
      there = record {
        ascending = runs-ascending m 0 (groups_from m 0) runs;
        exact = λ c. runs-spell m 0 (groups_from m 0) runs c (omega arith);
        apart = runs-apart m 0 (groups_from m 0) runs;
      };
      alone = λ list h. same_runs m 0 list (groups_from m 0) (canonical-runs m 0 list ok h.ascending h.apart
          (λ c x. h.exact c)) runs;
      behind = λ from. runs-canonical m from (groups_from m from) (groups_from-runs m from ok);
      runs = λ from. groups_from-runs m from ok;
      one = λ from list h. same_runs m from list (groups_from m from) h (groups_from-runs m from ok);
    }

-- a piece with the one that goes on it
pub piece_on : (m : ℕ → ℕ) (from : ℕ) (run next : Run) → IsPiece m from run → IsPiece m (run.last + 1) next
    → next.first ≡ run.last + 1 → next.glyph ≡ run.glyph + (next.first - run.first)
    → IsPiece m from (record { first = run.first; last = next.last; glyph = run.glyph })
piece_on m from run next h k first glyph =
    let o = h.order in
    let p = k.order in
    record {
      from_on = h.from_on;
      least = h.least;
      order = omega arith;
      within = k.within;
      mapped = h.mapped;
      small = omega (arith, k.small);
      along = λ c x y. elim (cases_lt run.last c) [
        | inl z ↦ omega (arith, k.along c (omega (arith, z)) y)
        | inr z ↦ h.along c x z
      ];
    }

-- a piece that the next one does not go on is a run
pub piece_ends : (m : ℕ → ℕ) (from : ℕ) (run next : Run) → IsPiece m from run → IsPiece m (run.last + 1) next
    → (next.first ≡ run.last + 1 → next.glyph ≡ run.glyph + (next.first - run.first) → ⊥) → IsRun m from run
piece_ends m from run next h k apart =
    record {
      piece = h;
      longest = λ e. elim (cases_lt (run.last + 1) next.first) [
        | inl x ↦ omega (arith, k.least (run.last + 1) (omega arith) x, e, h.mapped, h.order)
        | inr x ↦
            let first : next.first ≡ run.last + 1 = omega (arith, x, k.from_on) in
            let there : m next.first ≡ m (run.last + 1) = ap m first in
            apart first (omega (arith, k.along next.first (omega arith) k.order, there, e, h.order, first))
      ];
    }

-- and so is one after which no code is mapped
pub piece_last : (m : ℕ → ℕ) (from : ℕ) (run : Run) → IsPiece m from run → NoRun m (run.last + 1) → IsRun m from run
piece_last m from run h none =
    record { piece = h; longest = λ e. omega (arith, none (run.last + 1) (omega arith), e, h.mapped, h.order) }

-- a piece with the code after it
pub code_on : (m : ℕ → ℕ) (from code glyph : ℕ) (run : Run) → IsPiece m from run → code ≡ run.last + 1 → code ≤ 0x10FFFF
    → glyph ≡ m code → glyph < 65536 → glyph ≡ run.glyph + (code - run.first)
    → IsPiece m from (record { first = run.first; last = code; glyph = run.glyph })
code_on m from code glyph run h next within is small on =
    let o = h.order in
    record {
      from_on = h.from_on;
      least = h.least;
      order = omega arith;
      within = within;
      mapped = h.mapped;
      small = omega arith;
      along = λ c x y. elim (cases_lt run.last c) [
        | inl z ↦ let same : c ≡ code = omega arith in omega (arith, ap m same, is, on, same)
        | inr z ↦ h.along c x z
      ];
    }
