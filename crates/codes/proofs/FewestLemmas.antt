-- No ascending list of groups that spells a map is shorter than its canonical groups, of which a run is the
-- first.
use Rattle.std.proofs.Common.{◌≡◌, ℕ, suc, ◌+◌, ◌-◌, ◌≤◌, nat_le, List, [], ◌∷◌, length, Some, None, sym, ap, ◌∙◌}
use Rattle.std.proofs.Common.{subst, arith, inl, inr}
use Rattle.std.proofs.lemmas.Bool.{cases_lt, cases_order}
use Rattle.std.specs.List.{slice_get}
use Rattle.codes.specs.CharacterMap.{IsCharacterMap, restricted}
use Rattle.codes.specs.Runs.{AreAscending, AreCanonical, AreRuns, FewestGroups, IsPiece, IsRun, RunIsFirstGroup}
use Rattle.codes.specs.Runs.{groups_from, spelled}
use Rattle.codes.specs.declared.runs.Run.{Run}
use Rattle.codes.proofs.MapLemmas.{restricted_map}
use Rattle.codes.proofs.RunLemmas.{canonical, groups_done, groups_from-runs, groups_next, piece_ends, piece_last}
use Rattle.codes.proofs.RunLemmas.{piece_on, same_runs, some_run, spelled_below, spelled_in, spelled_out}

-- the run of a piece that the next run goes on
merged : (m : ℕ → ℕ) (from : ℕ) (run next : Run) → IsPiece m from run → IsRun m (run.last + 1) next
    → next.first ≡ run.last + 1 → next.glyph ≡ run.glyph + (next.first - run.first)
    → IsRun m from (record { first = run.first; last = next.last; glyph = run.glyph })
merged m from run next p h first glyph =
    record {
      piece = piece_on m from run next p h.piece first glyph;
      longest = λ e. h.longest (omega (arith, e, first, glyph, p.order));
    }

-- the runs from a piece on are at most one more than the runs after it
one_more : (m : ℕ → ℕ) (from : ℕ) (run : Run) (runs behind : List Run) → IsPiece m from run → AreRuns m from runs
    → AreRuns m (run.last + 1) behind → length runs ≤ suc (length behind)
one_more m from run runs [] p h none =
    let same = ap length (same_runs m from runs (run ∷ []) h (piece_last m from run p none, none)) in omega arith
one_more m from run runs (next ∷ rest) p h k =
    let apart : ((next.first ≡ run.last + 1) → next.glyph ≡ run.glyph + (next.first - run.first) → ⊥)
    → length runs ≤ suc (length (next ∷ rest)) =
    λ off. let same =
    ap length (same_runs m from runs (run ∷ next ∷ rest) h (piece_ends m from run next p k.0.piece off, k)) in
    omega arith in
    elim (cases_order next.first (run.last + 1)) [
      | inl first ↦ elim (cases_order next.glyph (run.glyph + (next.first - run.first))) [
        | inl glyph ↦
            let same = ap length (same_runs m from runs (record {
              first = run.first;
              last = next.last;
              glyph = run.glyph;
            } ∷ rest) h (merged m from run next p k.0 first glyph, k.1)) in omega arith
        | inr other ↦ apart (λ a b. elim other [ inl less ↦ omega arith | inr more ↦ omega arith ])
      ]
      | inr other ↦ apart (λ a b. elim other [ inl less ↦ omega arith | inr more ↦ omega arith ])
    ]

-- the first of ascending groups that spell a map from a code on is a piece of it
first_piece : (m : ℕ → ℕ) (from : ℕ) (run : Run) (runs : List Run) → IsCharacterMap m → AreAscending from (run ∷ runs)
    → ((c : ℕ) → from ≤ c → spelled (run ∷ runs) c ≡ m c) → IsPiece m from run
first_piece m from run runs ok o exact =
    let along : (c : ℕ) → run.first ≤ c → c ≤ run.last → m c + run.first ≡ run.glyph + c =
    λ c x y. omega (arith, exact c (omega (arith, x, o.0)), spelled_in run runs c x y, x) in
    let last = along run.last o.1 (omega arith) in
    record {
      from_on = o.0;
      least = λ c x y. sym (exact c x) ∙ spelled_out run runs c (inl y)
          ∙ spelled_below (suc run.last) runs c o.3 (omega (arith, y, o.1));
      order = o.1;
      within = elim (cases_lt run.last 0x110000) [
        | inl x ↦ omega (arith, x)
        | inr x ↦ absurd (omega (arith, ok.codes run.last x, last, o.2, o.1))
      ];
      mapped = o.2;
      small = omega (arith, ok.glyphs run.last, last, o.1);
      along = along;
    }

-- so each list of runs is as short as can be
fewest : (m : ℕ → ℕ) (from : ℕ) (groups runs : List Run) → IsCharacterMap m → AreRuns m from groups
    → AreAscending from runs → ((c : ℕ) → from ≤ c → spelled runs c ≡ m c) → length groups ≤ length runs
fewest m from [] runs ok h o exact = omega arith
fewest m from (run ∷ groups) [] ok h o exact = absurd (some_run m from run h.0 (λ c x. sym (exact c x)))
fewest m from (next ∷ groups) (run ∷ runs) ok h o exact =
    let above : AreAscending (run.last + 1) runs = subst (λ (low : ℕ). AreAscending low runs) (omega arith) o.3 in
    let behind : AreRuns m (run.last + 1) (groups_from m (run.last + 1)) = groups_from-runs m (run.last + 1) ok in
    let rest = fewest m (run.last + 1) (groups_from m (run.last + 1)) runs ok behind above
    (λ c x. sym (spelled_out run runs c (inr (omega (arith, x)))) ∙ exact c (omega (arith, x, o.0, o.1))) in
    let more = one_more m from run (next ∷ groups) (groups_from m (run.last + 1))
    (first_piece m from run runs ok o exact) h behind in
    omega arith

pub fewest_groups : FewestGroups
fewest_groups wanted m runs ok o exact =
    let kept : IsCharacterMap (restricted wanted m) = restricted_map wanted m ok in
    fewest (restricted wanted m) 0 (groups_from (restricted wanted m) 0) runs kept
    (groups_from-runs (restricted wanted m) 0 kept) o (λ c x. exact c)

-- the canonical groups of the codes from one on are the runs from there on
from_there : (m : ℕ → ℕ) (from : ℕ) (groups : List Run) → IsCharacterMap m
    → AreCanonical (restricted (nat_le from) m) groups → groups ≡ groups_from m from
from_there m from groups ok h =
    let law = canonical (restricted (nat_le from) m) (restricted_map (nat_le from) m ok) in
    law.alone groups h ∙ sym (law.alone (groups_from m from) ((canonical m ok).behind from))

pub run_is_first : RunIsFirstGroup
run_is_first m from None groups ok none h =
    sym (ap (λ (list : List Run). slice_get list 0) (from_there m from groups ok h ∙ groups_done m from ok none))
run_is_first m from (Some run) groups ok is h =
    sym (ap (λ (list : List Run). slice_get list 0) (from_there m from groups ok h ∙ groups_next m from run ok is))
