-- Lists of the runs of a map: places in them, and the runs of the union of two.
use Rattle.std.proofs.Common.{◌≡◌, ◌≢◌, ℕ, zero, suc, ◌+◌, ◌-◌, ◌<◌, ◌≤◌, List, [], ◌∷◌, ◌++◌, length, append_assoc}
use Rattle.std.proofs.Common.{Option, None, Some, MatchOption, sym, ap, ◌∙◌, subst, arith, inl, inr}
use Rattle.std.proofs.Math.Path.{fun_ext}
use Rattle.std.proofs.lemmas.Bool.{cases_lt}
use Rattle.std.proofs.lemmas.List.{append-nil}
use Rattle.codes.specs.CharacterMap.{IsCharacterMap, united}
use Rattle.codes.specs.Runs.{AreRuns, IsNext, IsRun, NoRun, groups_from, spelled}
use Rattle.codes.specs.declared.runs.Run.{Run}
use Rattle.codes.proofs.MapLemmas.{united-map, united-none, united-some}
use Rattle.codes.proofs.RunLemmas.{canonical, groups_done, groups_few, groups_from-runs, groups_next}
use Rattle.map_union.specs.RunLists.{AreMapRuns}
use Rattle.map_union.specs.Inside.{IsBetween, IsPast, IsPlace, LeavesAlone, run_at}

-- the ends of runs ascend
ends_above : (m : ℕ → ℕ) (low : ℕ) (runs : List Run) → AreRuns m low runs → (k : ℕ) → k < length runs
    → low ≤ (run_at runs k).last
ends_above m low [] h k lt = absurd (omega (arith, lt))
ends_above m low (r ∷ rs) h zero lt = omega (arith, h.0.piece.from_on, h.0.piece.order)
ends_above m low (r ∷ rs) h (suc k) lt =
    let x = ends_above m (r.last + 1) rs h.1 k (omega (arith, lt)) in
    omega (arith, x, h.0.piece.from_on, h.0.piece.order)

pub ends_ascend : (m : ℕ → ℕ) (low : ℕ) (runs : List Run) → AreRuns m low runs → (j k : ℕ) → j ≤ k → k < length runs
    → (run_at runs j).last ≤ (run_at runs k).last
ends_ascend m low [] h j k le lt = absurd (omega (arith, lt))
ends_ascend m low (r ∷ rs) h zero zero le lt = omega arith
ends_ascend m low (r ∷ rs) h zero (suc k) le lt = let x = ends_above m (r.last + 1) rs h.1 k (omega (arith, lt)) in
    omega (arith, x)
ends_ascend m low (r ∷ rs) h (suc j) zero le lt = absurd (omega (arith, le))
ends_ascend m low (r ∷ rs) h (suc j) (suc k) le lt =
    ends_ascend m (r.last + 1) rs h.1 j k (omega (arith, le)) (omega (arith, lt))

-- where a run ends below a code, so do those before it
pub past_middle : (runs : List Run) (from middle : ℕ) → AreMapRuns runs → middle < length runs
    → (run_at runs middle).last < from → IsPast runs from (middle + 1)
past_middle runs from middle ok lt h =
    record {
      within = omega (arith, lt);
      before = λ k low. let x = ends_ascend (spelled runs) 0 runs ok.are k middle (omega (arith, low)) lt in
          omega (arith, x, h);
    }

-- the place after such a run, where its own run does not end below the code
pub place_behind : (runs : List Run) (from place : ℕ) → AreMapRuns runs → 0 < place → place < length runs
    → (run_at runs (place - 1)).last < from → from ≤ (run_at runs place).last → IsPlace runs from place
place_behind runs from place ok some lt below on =
    let behind : place - 1 + 1 ≡ place = omega (arith, some) in
    record {
      past = subst (λ (p : ℕ). IsPast runs from p) behind (past_middle runs from (place - 1) ok
          (omega (arith, some, lt)) below);
      there = λ low. on;
    }

-- the place for a code above the end of a run is after that run
pub place_above : (runs : List Run) (from i at : ℕ) → AreMapRuns runs → i < length runs → (run_at runs i).last < from
    → IsPlace runs from at → i < at
place_above runs from i at ok lt below place = elim (cases_lt i at) [
  | inl less ↦ less
  | inr le ↦
      let up = ends_ascend (spelled runs) 0 runs ok.are at i le lt in
      absurd (omega (arith, place.there (omega (arith, le, lt)), up, below))
]

-- halving goes on after the middle, or up to it
pub middle_past : (runs : List Run) (from low high middle : ℕ) → AreMapRuns runs → IsBetween runs from low high
    → low ≤ middle → middle < high → (run_at runs middle).last < from → IsBetween runs from (middle + 1) high
middle_past runs from low high middle ok h le lt less =
    record {
      past = past_middle runs from middle ok (omega (arith, lt, h.within)) less;
      order = omega (arith, lt);
      within = h.within;
      there = h.there;
    }

pub middle_there : (runs : List Run) (from low high middle : ℕ) → IsBetween runs from low high → low ≤ middle
    → middle < high → from ≤ (run_at runs middle).last → IsBetween runs from low middle
middle_there runs from low high middle h le lt on =
    record { past = h.past; order = le; within = omega (arith, lt, h.within); there = λ low'. on }

-- one more
pub past_more : (runs : List Run) (from at : ℕ) → IsPast runs from at → at < length runs → (run_at runs at).last < from
    → IsPast runs from (at + 1)
past_more runs from at h lt low =
    record {
      within = omega (arith, lt);
      before = λ k less. elim (cases_lt k at) [
        | inl x ↦ h.before k x
        | inr x ↦ let e : k ≡ at = omega (arith, x, less) in subst (λ (j : ℕ). (run_at runs j).last < from) (sym e) low
      ];
    }

-- and for a higher code
pub past_on : (runs : List Run) (from to at : ℕ) → from ≤ to → IsPast runs from at → IsPast runs to at
past_on runs from to at le h = record { within = h.within; before = λ k low. omega (arith, h.before k low, le) }

pub past_none : (runs : List Run) (from : ℕ) → IsPast runs from 0
past_none runs from = record { within = omega arith; before = λ k low. absurd (omega (arith, low)) }

module _ (m : ℕ → ℕ) (from : ℕ) where
  none_past : (low : ℕ) (runs : List Run) → AreRuns m low runs → low ≤ from
      → ((k : ℕ) → k < length runs → (run_at runs k).last < from) → NoRun m from
  none_past low [] h le all = λ c x. h c (omega (arith, le, x))
  none_past low (r ∷ rs) h le all = none_past (r.last + 1) rs h.1 (omega (arith, all 0 (omega arith)))
      (λ k lt. all (suc k) (omega (arith, lt)))

  pub found_at : (low : ℕ) (runs : List Run) (at : ℕ) → AreRuns m low runs → low ≤ from → at < length runs
      → ((k : ℕ) → k < at → (run_at runs k).last < from)
      → (j : ℕ) × (j ≤ from) × IsRun m j (run_at runs at)
  found_at low [] at h le lt before = absurd (omega (arith, lt))
  found_at low (r ∷ rs) zero h le lt before = (low, le, h.0)
  found_at low (r ∷ rs) (suc at) h le lt before =
      found_at (r.last + 1) rs at h.1 (omega (arith, before 0 (omega arith))) (omega (arith, lt))
      (λ k low'. before (suc k) (omega (arith, low')))

  pub run_whole : (low : ℕ) (run : Run) → low ≤ from → IsRun m low run → from ≤ run.first → IsRun m from run
  run_whole low run le h on =
      record {
        piece = record {
          from_on = on;
          least = λ c x y. h.piece.least c (omega (arith, x, le)) y;
          order = h.piece.order;
          within = h.piece.within;
          mapped = h.piece.mapped;
          small = h.piece.small;
          along = h.piece.along;
        };
        longest = h.longest;
      }

  run_cut : (low : ℕ) (run : Run) (g : ℕ) → IsRun m low run → run.first < from → from ≤ run.last
      → g ≡ run.glyph + (from - run.first) → IsRun m from (record { first = from; last = run.last; glyph = g })
  run_cut low run g h less on e =
      record {
        piece = record {
          from_on = omega arith;
          least = λ c x y. absurd (omega (arith, x, y));
          order = on;
          within = h.piece.within;
          mapped = omega (arith, e, h.piece.mapped);
          small = omega (arith, e, h.piece.small, less, on);
          along = λ c x y. omega (arith, h.piece.along c (omega (arith, x, less)) y, e, x, less);
        };
        longest = λ q. h.longest (omega (arith, q, e, less, on));
      }

-- what is found at a place
module _ (runs : List Run) (from at : ℕ) (ok : AreMapRuns runs) (place : IsPlace runs from at) where
  pub none_there : at ≡ length runs → NoRun (spelled runs) from
  none_there e = none_past (spelled runs) from 0 runs ok.are (omega arith)
      (λ k low. place.past.before k (omega (arith, low, e)))

  found_there : at < length runs → (j : ℕ) × (j ≤ from) × IsRun (spelled runs) j (run_at runs at)
  found_there lt = found_at (spelled runs) from 0 runs at ok.are (omega arith) lt place.past.before

  pub run_there : at < length runs → from ≤ (run_at runs at).first → IsRun (spelled runs) from (run_at runs at)
  run_there lt on = let f = found_there lt in run_whole (spelled runs) from f.0 (run_at runs at) f.1 f.2 on

  pub run_from_there : at < length runs → (run_at runs at).first < from → (g : ℕ) → g ≡ (run_at runs at).glyph
      + (from - (run_at runs at).first)
      → IsRun (spelled runs) from (record { first = from; last = (run_at runs at).last; glyph = g })
  run_from_there lt less g e = let f = found_there lt in
      run_cut (spelled runs) from f.0 (run_at runs at) g f.2 less (place.there lt) e

  -- the glyph of a code in that run has 16 bits
  pub glyph_there : at < length runs → (run_at runs at).first < from → (run_at runs at).glyph
      + (from - (run_at runs at).first) < 65536
  glyph_there lt less = let f = found_there lt in omega (arith, f.2.piece.small, place.there lt, less)

-- a run is a piece
pub next_of : (m : ℕ → ℕ) (from : ℕ) (found : Option Run) → MatchOption found (NoRun m from) (IsRun m from)
    → IsNext m from found
next_of m from None h = h
next_of m from (Some run) h = h.piece

-- the groups of a map are its runs, and spell it
pub groups_spell : (m : ℕ → ℕ) (runs : List Run) → IsCharacterMap m → runs ≡ groups_from m 0 → (spelled runs ≡ m)
    × AreMapRuns runs
groups_spell m runs ok e =
    let s : spelled runs ≡ m = fun_ext (λ c. ap (λ (rs : List Run). spelled rs c) e ∙ (canonical m ok).there.exact c) in
    let r : AreRuns m 0 runs = subst (AreRuns m 0) (sym e) (groups_from-runs m 0 ok) in
    (s, record { map = subst IsCharacterMap (sym s) ok; are = subst (λ (k : ℕ → ℕ). AreRuns k 0 runs) (sym s) r })

-- at the end
pub groups_all : (m : ℕ → ℕ) (from : ℕ) (runs : List Run) → IsCharacterMap m
    → runs ++ groups_from m from ≡ groups_from m 0 → NoRun m from → (spelled runs ≡ m) × AreMapRuns runs
groups_all m from runs ok done none =
    groups_spell m runs ok (sym (append-nil runs)
    ∙ ap (λ (rest : List Run). runs ++ rest) (sym (groups_done m from ok none)) ∙ done)

-- below the run at a place no code from one on is mapped
pub gap_before : (runs : List Run) (from at c : ℕ) → AreMapRuns runs → IsPast runs from at → at < length runs → from ≤ c
    → c < (run_at runs at).first → spelled runs c ≡ 0
gap_before runs from at c ok past lt x y =
    let f = found_at (spelled runs) from 0 runs at ok.are (omega arith) lt past.before in
    f.2.piece.least c (omega (arith, f.1, x)) y

pub gap_at_end : (runs : List Run) (from at c : ℕ) → AreMapRuns runs → IsPast runs from at → length runs ≤ at → from ≤ c
    → spelled runs c ≡ 0
gap_at_end runs from at c ok past le x =
    none_past (spelled runs) from 0 runs ok.are (omega arith) (λ k low. past.before k (omega (arith, low, le))) c x

-- a run of one map is one of the union, where the other map leaves it alone
pub first_alone : (m k : ℕ → ℕ) (from : ℕ) (run : Run) → IsRun m from run → LeavesAlone k from run
    → IsRun (united m k) from run
first_alone m k from run h alone =
    let same : (c : ℕ) → from ≤ c → c ≤ run.last → united m k c ≡ m c = λ c x y. elim (cases_lt 0 (m c)) [
      | inl some ↦ united-some m k c some
      | inr low ↦ let z : m c ≡ 0 = omega (arith, low) in united-none m k c z ∙ alone.none c x y ∙ sym z
    ] in
    record {
      piece = record {
        from_on = h.piece.from_on;
        least = λ c x y. same c x (omega (arith, y, h.piece.order)) ∙ h.piece.least c x y;
        order = h.piece.order;
        within = h.piece.within;
        mapped = h.piece.mapped;
        small = h.piece.small;
        along = λ c x y. omega (arith, same c (omega (arith, x, h.piece.from_on)) y, h.piece.along c x y);
      };
      longest = λ q. elim (cases_lt 0 (m (run.last + 1))) [
        | inl some ↦ h.longest (omega (arith, q, united-some m k (run.last + 1) some))
        | inr low ↦ let z : m (run.last + 1) ≡ 0 = omega (arith, low) in
            alone.behind (omega (arith, q, united-none m k (run.last + 1) z))
      ];
    }

pub second_alone : (m k : ℕ → ℕ) (from : ℕ) (run : Run) → IsRun k from run → LeavesAlone m from run
    → IsRun (united m k) from run
second_alone m k from run h alone =
    let same : (c : ℕ) → from ≤ c → c ≤ run.last → united m k c ≡ k c = λ c x y. united-none m k c (alone.none c x y) in
    record {
      piece = record {
        from_on = h.piece.from_on;
        least = λ c x y. same c x (omega (arith, y, h.piece.order)) ∙ h.piece.least c x y;
        order = h.piece.order;
        within = h.piece.within;
        mapped = h.piece.mapped;
        small = h.piece.small;
        along = λ c x y. omega (arith, same c (omega (arith, x, h.piece.from_on)) y, h.piece.along c x y);
      };
      longest = λ q. elim (cases_lt 0 (m (run.last + 1))) [
        | inl some ↦ alone.behind (omega (arith, q, united-some m k (run.last + 1) some))
        | inr low ↦ let z : m (run.last + 1) ≡ 0 = omega (arith, low) in
            h.longest (omega (arith, q, united-none m k (run.last + 1) z))
      ];
    }

-- the end of a list leaves any run alone
pub end_leaves_alone : (runs : List Run) (from at : ℕ) (run : Run) → AreMapRuns runs → IsPast runs from at → length runs
    ≤ at → from ≤ run.last + 1 → run.first ≤ run.last → 0 < run.glyph
    → LeavesAlone (spelled runs) from run
end_leaves_alone runs from at run ok past le on order some =
    record {
      none = λ c x y. gap_at_end runs from at c ok past le x;
      behind = λ q. let z = gap_at_end runs from at (run.last + 1) ok past le on in
          absurd (omega (arith, q, z, order, some));
    }

-- and so does a run that begins after it and does not go on with it
pub next_leaves_alone : (runs : List Run) (from at : ℕ) (run : Run) → AreMapRuns runs
    → IsPast runs from at → at < length runs → run.last < (run_at runs at).first → from ≤ run.last + 1
    → run.first ≤ run.last → 0 < run.glyph
    → ((run_at runs at).first ≡ run.last + 1 → (run_at runs at).glyph ≢ run.glyph + (run.last - run.first) + 1)
    → LeavesAlone (spelled runs) from run
next_leaves_alone runs from at run ok past lt behind on order some apart =
    let f = found_at (spelled runs) from 0 runs at ok.are (omega arith) lt past.before in
    record {
      none = λ c x y. gap_before runs from at c ok past lt x (omega (arith, y, behind));
      behind = λ q. elim (cases_lt (run.last + 1) (run_at runs at).first) [
        | inl far ↦ let z = gap_before runs from at (run.last + 1) ok past lt on far in
            absurd (omega (arith, q, z, order, some))
        | inr near ↦
            let e : (run_at runs at).first ≡ run.last + 1 = omega (arith, near, behind) in
            let first = f.2.piece.along (run_at runs at).first (omega arith) f.2.piece.order in
            let here : spelled runs (run.last + 1) ≡ (run_at runs at).glyph =
            subst (λ (c : ℕ). spelled runs c ≡ (run_at runs at).glyph) e (omega (arith, first)) in
            apart e (omega (arith, q, here, order))
      ];
    }

-- the run at a place has an order and a glyph
pub run_sound : (runs : List Run) (from at : ℕ) → AreMapRuns runs → IsPast runs from at → at < length runs
    → ((run_at runs at).first ≤ (run_at runs at).last) × (0 < (run_at runs at).glyph)
    × ((run_at runs at).last ≤ 0x10FFFF)
    × ((run_at runs at).glyph + ((run_at runs at).last - (run_at runs at).first) < 65536)
run_sound runs from at ok past lt =
    let f = found_at (spelled runs) from 0 runs at ok.are (omega arith) lt past.before in
    (f.2.piece.order, f.2.piece.mapped, f.2.piece.within, f.2.piece.small)

pub both_map : (a b : List Run) → AreMapRuns a → AreMapRuns b → IsCharacterMap (united (spelled a) (spelled b))
both_map a b x y = united-map (spelled a) (spelled b) x.map y.map

-- runs are the groups of the map that they spell
pub runs_are : (runs : List Run) → AreMapRuns runs → runs ≡ groups_from (spelled runs) 0
runs_are runs ok = (canonical (spelled runs) ok.map).one 0 runs ok.are

pub runs_few : (runs : List Run) → AreMapRuns runs → length runs ≤ 0x110000
runs_few runs ok = omega (arith, ap length (runs_are runs ok), groups_few (spelled runs) 0)

-- one more is done
pub groups_go_on : (m : ℕ → ℕ) (from : ℕ) (done all : List Run) (run : Run) → IsCharacterMap m
    → done ++ groups_from m from ≡ all → IsRun m from run → (done ++ run ∷ []) ++ groups_from m (run.last + 1) ≡ all
groups_go_on m from done all run ok is next =
    append_assoc done (run ∷ []) (groups_from m (run.last + 1))
    ∙ ap (λ (runs : List Run). done ++ runs) (sym (groups_next m from run ok next)) ∙ is
