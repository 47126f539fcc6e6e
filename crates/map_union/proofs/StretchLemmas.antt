-- Stretches of runs of one list that another map leaves alone: they are runs of the union.
use Rattle.std.proofs.Common.{◌≡◌, ℕ, zero, suc, ◌+◌, ◌-◌, ◌<◌, ◌≤◌, List, [], ◌∷◌, ◌++◌, length, take, drop}
use Rattle.std.proofs.Common.{append_assoc, refl, sym, ap, ◌∙◌, subst, arith, inl, inr}
use Rattle.std.proofs.Math.Seq.{take-suc}
use Rattle.std.proofs.lemmas.Bool.{cases_lt}
use Rattle.std.proofs.lemmas.List.{get_or-drop, length-drop}
use Rattle.codes.specs.CharacterMap.{IsCharacterMap}
use Rattle.codes.specs.Runs.{AreRuns, IsRun, groups_from, spelled}
use Rattle.codes.specs.declared.runs.Run.{Run}
use Rattle.map_union.proofs.RunListLemmas.{groups_go_on}
use Rattle.map_union.specs.RunLists.{AreMapRuns}
use Rattle.map_union.specs.Inside.{AreLeftAlone, IsDone, IsPast, LeavesAlone, run_at}
use Rattle.map_union.proofs.RunListLemmas.{end_leaves_alone, ends_ascend, found_at, next_leaves_alone, past_more}
use Rattle.map_union.proofs.RunListLemmas.{past_on, run_sound, run_whole}

-- each run has an order and a glyph
pub each_sound : (runs : List Run) → AreMapRuns runs → (k : ℕ) → k < length runs
    → ((run_at runs k).first ≤ (run_at runs k).last) × (0 < (run_at runs k).glyph) × ((run_at runs k).last ≤ 0x10FFFF)
each_sound runs ok k lt =
    let past : IsPast runs ((run_at runs k).last + 1) k = record {
      within = omega (arith, lt);
      before = λ m x. omega (arith, ends_ascend (spelled runs) 0 runs ok.are m k (omega (arith, x)) lt);
    } in
    let sound = run_sound runs ((run_at runs k).last + 1) k ok past lt in
    (sound.0, sound.1, sound.2)

-- each run begins after the one before it
next_behind : (m : ℕ → ℕ) (low : ℕ) (runs : List Run) → AreRuns m low runs → (k : ℕ) → suc k < length runs
    → (run_at runs k).last + 1 ≤ (run_at runs (suc k)).first
next_behind m low [] h k lt = absurd (omega (arith, lt))
next_behind m low (r ∷ []) h k lt = absurd (omega (arith, lt))
next_behind m low (r ∷ s ∷ rs) h zero lt = h.1.0.piece.from_on
next_behind m low (r ∷ s ∷ rs) h (suc k) lt = next_behind m (r.last + 1) (s ∷ rs) h.1 k (omega (arith, lt))

-- so they begin in order
pub starts_ascend : (runs : List Run) → AreMapRuns runs → (i k : ℕ) → i ≤ k → k < length runs → (run_at runs i).first
    ≤ (run_at runs k).first
starts_ascend runs ok i zero le lt = let e : i ≡ 0 = omega (arith, le) in
    subst (λ (m : ℕ). (run_at runs i).first ≤ (run_at runs m).first) e (omega arith)
starts_ascend runs ok i (suc k) le lt = elim (cases_lt i (suc k)) [
  | inl less ↦
      let here = each_sound runs ok i (omega (arith, less, lt)) in
      let up = ends_ascend (spelled runs) 0 runs ok.are i k (omega (arith, less)) (omega (arith, lt)) in
      omega (arith, here.0, up, next_behind (spelled runs) 0 runs ok.are k lt)
  | inr more ↦ let e : i ≡ suc k = omega (arith, more, le) in
      subst (λ (m : ℕ). (run_at runs i).first ≤ (run_at runs m).first) e (omega arith)
]

-- runs that end below the next run of another list, up to one of them: that list leaves alone those after a
-- place
module _ (a b : List Run) (from i j end : ℕ) (first : AreMapRuns a) (second : AreMapRuns b) (past : IsPast b from j)
    (there : j < length b) (on : from ≤ (run_at a i).last) (below : IsPast a (run_at b j).first end) where
  -- but for the last one: that may go on
  pub alone_below : (k : ℕ) → i < k → suc k < end → LeavesAlone (spelled b) from (run_at a k)
  alone_below k up lt =
      let here = each_sound a first k (omega (arith, lt, below.within)) in
      let next = each_sound a first (suc k) (omega (arith, lt, below.within)) in
      let step = next_behind (spelled a) 0 a first.are k (omega (arith, lt, below.within)) in
      let far : (run_at a k).last + 1 < (run_at b j).first = omega (arith, step, next.0, below.before (suc k) lt) in
      let up_to = ends_ascend (spelled a) 0 a first.are i k (omega (arith, up)) (omega (arith, lt, below.within)) in
      next_leaves_alone b from j (run_at a k) second past there (omega (arith, far)) (omega (arith, on, up_to)) here.0
      here.1 (λ e. absurd (omega (arith, e, far)))

  pub alone_but_last : AreLeftAlone a i (end - 1) (spelled b) from
  alone_but_last k up lt = alone_below k up (omega (arith, lt))

  pub alone_with_last : LeavesAlone (spelled b) from (run_at a (end - 1)) → AreLeftAlone a i end (spelled b) from
  alone_with_last last k up lt = elim (cases_lt (suc k) end) [
    | inl less ↦ alone_below k up less
    | inr le ↦
        let e : end - 1 ≡ k = omega (arith, le, lt) in
        subst (λ (m : ℕ). LeavesAlone (spelled b) from (run_at a m)) e last
  ]

-- the end of a list leaves all of them alone
pub alone_at_end : (a b : List Run) (from i j : ℕ) → AreMapRuns a → AreMapRuns b → IsPast b from j → length b ≤ j
    → from ≤ (run_at a i).last → AreLeftAlone a i (length a) (spelled b) from
alone_at_end a b from i j first second past there on k up lt =
    let ends = each_sound a first k lt in
    let up_to = ends_ascend (spelled a) 0 a first.are i k (omega (arith, up)) lt in
    end_leaves_alone b from j (run_at a k) second past there (omega (arith, on, up_to)) ends.0 ends.1

-- a stretch of one run
pub one_run : (runs : List Run) → length runs ≡ 1 → run_at runs 0 ∷ [] ≡ runs
one_run [] e = absurd (omega (arith, e))
one_run (r ∷ []) e = refl
one_run (r ∷ s ∷ rs) e = absurd (omega (arith, e))

-- a list, and a place whose run begins at a code or after it
module _ (list : List Run) (ok : AreMapRuns list) (from i : ℕ) (start : IsPast list from i) (begins : from
    ≤ (run_at list i).first) where
  -- the code after the run at a place
  abbrev behind : ℕ → ℕ
  behind k = (run_at list k).last + 1

  -- what is known of the code after a run of the stretch
  pub record IsBehind (k : ℕ) : Type 0 where
    pub past : IsPast list (behind k) (k + 1)
    pub on : from < behind k
    pub small : behind k ≤ 0x110000

  one_behind : (c k : ℕ) → from ≤ c → IsPast list c k → k < length list → c ≤ (run_at list k).first → IsBehind k
  one_behind c k le there lt at =
      let sound = run_sound list c k ok there lt in
      record {
        past = past_more list (behind k) k (past_on list c (behind k) k (omega (arith, at, sound.0)) there) lt
            (omega arith);
        on = omega (arith, le, at, sound.0);
        small = omega (arith, sound.2);
      }

  are_behind : (n k : ℕ) → k ≡ i + n → k < length list → IsBehind k
  are_behind zero k e lt =
      let same : i ≡ k = omega (arith, e) in
      one_behind from k (omega arith) (subst (IsPast list from) same start) lt
      (subst (λ (j : ℕ). from ≤ (run_at list j).first) same begins)
  are_behind (suc n) zero e lt = absurd (omega (arith, e))
  are_behind (suc n) (suc j) e lt =
      let before : IsBehind j = are_behind n j (omega (arith, e)) (omega (arith, lt)) in
      one_behind (behind j) (suc j) (omega (arith, before.on)) (subst (IsPast list (behind j)) (omega arith)
      before.past) lt (next_behind (spelled list) 0 list ok.are j lt)

  pub is_behind : (end : ℕ) → i < end → end ≤ length list → IsBehind (end - 1)
  is_behind end lt le = are_behind (end - 1 - i) (end - 1) (omega (arith, lt)) (omega (arith, lt, le))

  take_more : (n k : ℕ) → k ≡ i + n → k < length list → take (suc n) (drop i list) ≡ take n (drop i list)
      ++ run_at list k ∷ []
  take_more n k e lt =
      take-suc (drop i list) n (record { first = 0; last = 0; glyph = 0 }) (omega (arith, length-drop i list, e, lt))
      ∙ ap (λ (r : Run). take n (drop i list) ++ r ∷ [])
      (get_or-drop i list n (record { first = 0; last = 0; glyph = 0 }) ∙ ap (run_at list) (sym e))

  -- another map leaves those of a stretch alone, so they are runs of the union
  module _ (M other : ℕ → ℕ) (map : IsCharacterMap M) (lift : (c : ℕ) (run : Run) → IsRun (spelled list) c run
      → LeavesAlone other c run → IsRun M c run)
      (end : ℕ) (first : LeavesAlone other from (run_at list i)) (rest : AreLeftAlone list i end other from)
      (runs : List Run) (done : IsDone M runs from) where
    one_done : (before : List Run) (c k : ℕ) → IsPast list c k → k < length list → c ≤ (run_at list k).first
        → LeavesAlone other c (run_at list k) → IsDone M before c → IsDone M (before ++ run_at list k ∷ []) (behind k)
    one_done before c k there lt at alone is =
        let f = found_at (spelled list) c 0 list k ok.are (omega arith) lt there.before in
        groups_go_on M c before (groups_from M 0) (run_at list k) map is
        (lift c (run_at list k) (run_whole (spelled list) c f.0 (run_at list k) f.1 f.2 at) alone)

    are_done : (n k : ℕ) → k ≡ i + n → k < length list → k < end
        → IsDone M (runs ++ take (suc n) (drop i list)) (behind k)
    are_done zero k e lt less =
        let same : i ≡ k = omega (arith, e) in
        subst (λ (l : List Run). IsDone M (runs ++ l) (behind k)) (sym (take_more zero k e lt))
        (one_done runs from k (subst (IsPast list from) same start) lt (subst (λ (j : ℕ). from ≤ (run_at list j).first)
        same begins) (subst (λ (j : ℕ). LeavesAlone other from (run_at list j)) same first) done)
    are_done (suc n) zero e lt less = absurd (omega (arith, e))
    are_done (suc n) (suc j) e lt less =
        let before : IsBehind j = are_behind n j (omega (arith, e)) (omega (arith, lt)) in
        let here : Run = run_at list (suc j) in
        let there : IsPast list (behind j) (suc j) = subst (IsPast list (behind j)) (omega arith) before.past in
        let sound = run_sound list (behind j) (suc j) ok there lt in
        let next = next_behind (spelled list) 0 list ok.are j lt in
        let left = rest (suc j) (omega (arith, e)) less in
        let alone : LeavesAlone other (behind j) here = record {
          none = λ c x y. left.none c (omega (arith, x, before.on)) y;
          behind = left.behind;
        } in
        subst (λ (l : List Run). IsDone M l (behind (suc j))) (append_assoc runs (take (suc n) (drop i list)) (here
        ∷ []) ∙ ap (λ (l : List Run). runs ++ l) (sym (take_more (suc n) (suc j) e lt)))
        (one_done (runs ++ take (suc n) (drop i list)) (behind j) (suc j) there lt next alone
        (are_done n j (omega (arith, e)) (omega (arith, lt)) (omega (arith, less))))

    pub stretch_done : i < end → end ≤ length list → IsDone M (runs ++ take (end - i) (drop i list)) (behind (end - 1))
    stretch_done lt le =
        let all : suc (end - 1 - i) ≡ end - i = omega (arith, lt) in
        subst (λ (n : ℕ). IsDone M (runs ++ take n (drop i list)) (behind (end - 1))) all
        (are_done (end - 1 - i) (end - 1) (omega (arith, lt)) (omega (arith, lt, le)) (omega (arith, lt)))
