-- Marks of .notdef and of the glyphs of codes.
use Rattle.std.proofs.Common.{◌≡◌, ℕ, ◌+◌, ◌-◌, ◌<◌, ◌≤◌, ◌↔◌, inl, inr, Bool, true, ◌&&◌, ◌||◌, nat_eq, List}
use Rattle.std.proofs.Common.{length}
use Rattle.std.proofs.Common.{None, ap, refl, sym, ◌∙◌, subst, arith}
use mathlib.Core.Path.{fun_ext}
use Rattle.std.proofs.lemmas.Bool.{cases_eq, cases_lt, eq-eqb, eqb-true, or_cases, or_left, or_right}
use Rattle.std.specs.Cmp.{both_ways}
use Rattle.font_glyph.specs.Marks.{has}
use Rattle.codes.specs.CharacterMap.{IsCharacterMap, restricted}
use Rattle.codes.specs.Runs.{IsRun, NoRun}
use Rattle.codes.specs.declared.runs.Run.{Run}
use Rattle.font_glyph.specs.Reach.{Reach}
use Rattle.font_theory.specs.Content.{CODES, Wanted, is_kept, is_root, is_seed}
use Rattle.font_theory.specs.Kinds.{fault_of, font_of, settings}
use Rattle.font_theory.specs.declared.kinds.Kind.{Kind}
use Rattle.font_theory.specs.declared.kinds.Kind.TheVariants.{Full, Layout, Lean, Variable}
use Rattle.font_theory.proofs.KindFileLemmas.{is_kept-by}
use Rattle.font_theory.proofs.KindLemmas.{settings-are}
use Rattle.std.specs.Bool.{Decides}
use Rattle.font_theory.proofs.WantedLemmas.{is_root-none, is_seed-code, is_seed-tells, is_seed-zero}
use Rattle.font_tables.specs.Fields.{glyph_count_of}
use Rattle.font_tables.specs.Outlines.{outline_of}
use Rattle.font_file.specs.Font.{font_fault, map_of}
use Rattle.font_theory.proofs.FontLemmas.{IsFont-accepted, glyph_count-file}
use Rattle.font_theory.proofs.SpellingLemmas.{codes_are}
use Rattle.font_theory.proofs.WantedLemmas.{restricted-cases}
use Rattle.font_subset.specs.KeptGlyphs.{IsKeptSet, IsRootSet}
use Rattle.font_subset.proofs.PresenceLemmas.{none_there}
use Rattle.font_subset.specs.Inside.{AreMarked, AreNumbered, AreSeedsTo, IsSeedSet}

pub marked_start : (old : List Bool) (low : ℕ) → AreMarked old old low (low - low)
marked_start old low =
    record {
      count = refl;
      marked = λ g. (λ h. inr h, λ h. elim h [ inl x ↦ let q : ⊥ = omega (arith, x.0, x.1) in absurd q | inr x ↦ x ]);
    }

-- one more
pub marked_more : (old marks new : List Bool) (low at : ℕ) → low ≤ at → AreMarked old marks low (at - low)
    → length new ≡ length marks → ((h : ℕ) → has new h ≡ (nat_eq h at || has marks h))
    → AreMarked old new low (at + 1 - low)
marked_more old marks new low at le before count is =
    record {
      count = count ∙ before.count;
      marked = λ g. (
        λ h. elim (or_cases _ _ (sym (is g) ∙ h)) [
          | inl e ↦ let same = eqb-true g at e in inl (omega arith, omega arith)
          | inr e ↦ elim ((before.marked g).0 e) [ inl x ↦ inl (x.0, omega (arith, x.1)) | inr x ↦ inr x ]
        ],
        λ h. is g ∙ (elim h [
          | inl x ↦ elim (cases_eq g at) [
            | inl e ↦ or_left _ _ (eq-eqb g at e)
            | inr e ↦ or_right _ _ ((before.marked g).1 (inl (x.0, omega (arith, x.1, e))))
          ]
          | inr x ↦ or_right _ _ ((before.marked g).1 (inr x))
        ]),
      );
    }

pub marked_end : (old marks : List Bool) (low n k : ℕ) → n ≡ k → AreMarked old marks low n → AreMarked old marks low k
marked_end old marks low n k e h = subst (AreMarked old marks low) e h

-- the glyphs of one more run
pub seeds_more : (m : ℕ → ℕ) (from : ℕ) (run : Run) (old new : List Bool) → IsRun m from run → AreSeedsTo m from old
    → AreMarked old new run.glyph (run.last - run.first + 1) → AreSeedsTo m (run.last + 1) new
seeds_more m from run old new is before more =
    record {
      zero = (more.marked 0).1 (inr before.zero);
      codes = λ c low. elim (cases_lt c from) [
        | inl below ↦ (more.marked (m c)).1 (inr (before.codes c below))
        | inr above ↦ elim (cases_lt c run.first) [
          | inl gap ↦ subst (λ (g : ℕ). has new g ≡ true) (sym (is.piece.least c above gap))
              ((more.marked 0).1 (inr before.zero))
          | inr on ↦ let e = is.piece.along c on (omega arith) in let o = is.piece.order in
              (more.marked (m c)).1 (inl (omega arith, omega arith))
        ]
      ];
      only = λ g h. elim ((more.marked g).0 h) [
        | inl x ↦
            let c : ℕ = run.first + (g - run.glyph) in
            let o = is.piece.order in
            let on : c ≤ run.last = omega (arith, x.0, x.1) in
            let e = is.piece.along c (omega arith) on in
            inr (c, omega (arith, x.0))
        | inr x ↦ before.only g x
      ];
    }

-- all codes
pub seeds_end : (m : ℕ → ℕ) (from : ℕ) (marks : List Bool) → ((c : ℕ) → CODES ≤ c → m c ≡ 0) → NoRun m from
    → AreSeedsTo m from marks → (g : ℕ) → has marks g ≡ is_seed m g
seeds_end m from marks past none are g = both_ways (has marks g) (is_seed m g) forth back
  where
    forth : has marks g ≡ true → is_seed m g ≡ true
    forth h = elim (are.only g h) [
      | inl e ↦ subst (λ (x : ℕ). is_seed m x ≡ true) (sym e) (is_seed-zero m)
      | inr w ↦ subst (λ (x : ℕ). is_seed m x ≡ true) w.1 (is_seed-code m past w.0)
    ]

    back : is_seed m g ≡ true → has marks g ≡ true
    back h = elim (is_seed-tells m g h) [
      | inl e ↦ subst (λ (x : ℕ). has marks x ≡ true) (sym e) are.zero
      | inr w ↦ elim (cases_lt w.0 from) [
        | inl low ↦ subst (λ (x : ℕ). has marks x ≡ true) w.1 (are.codes w.0 low)
        | inr high ↦ subst (λ (x : ℕ). has marks x ≡ true) (sym (none w.0 high) ∙ w.1) are.zero
      ]
    ]

-- the wanted codes of an accepted file are codes, and their glyphs are glyphs
pub wanted_past : (file : List ℕ) (wanted : ℕ → Bool) → font_fault file ≡ None → (c : ℕ) → CODES ≤ c
    → restricted wanted (map_of file) c ≡ 0
wanted_past file wanted accepted c past =
    restricted-cases wanted (map_of file) (λ g. g ≡ 0) c ((IsFont-accepted file accepted).mapped_codes c past) refl

wanted_below : (file : List ℕ) (wanted : ℕ → Bool) → font_fault file ≡ None → (c : ℕ)
    → restricted wanted (map_of file) c < glyph_count_of file
wanted_below file wanted accepted c =
    let ok = IsFont-accepted file accepted in
    let low = ok.mapped_below c in
    let count = glyph_count-file file in
    restricted-cases wanted (map_of file) (λ g. g < glyph_count_of file) c (omega arith) (omega arith)

pub run_within : (file : List ℕ) (wanted : ℕ → Bool) (from : ℕ) (run : Run) → font_fault file ≡ None
    → IsRun (restricted wanted (map_of file)) from run → run.glyph + (run.last - run.first) < glyph_count_of file
run_within file wanted from run accepted is =
    let o = is.piece.order in
    let e = is.piece.along run.last o (omega arith) in
    let low = wanted_below file wanted accepted run.last in
    omega arith

-- with the wanted glyphs that are there, or in full cuts alone, the seeds are the roots
pub roots_numbered : (kind : Kind) (file : List ℕ) (wanted : Wanted) (seeds marks : List Bool)
    → IsSeedSet file wanted.codes seeds → AreNumbered (font_of kind file).there wanted.glyphs seeds marks
    → IsRootSet kind file wanted marks
unfolding is_root
roots_numbered kind file wanted seeds marks is more = record {
  count = more.count ∙ is.count;
  roots = λ g. more.marked g ∙ ap (λ b. b || (wanted.glyphs g && (font_of kind file).there g)) (is.seeds g);
}

pub roots_full : (kind : Kind) (file : List ℕ) (wanted : Wanted) (seeds : List Bool) → kind ≡ Full
    → IsSeedSet file wanted.codes seeds → IsRootSet kind file wanted seeds
roots_full Full file wanted seeds full is = record {
  count = is.count;
  roots = λ g. is.seeds g ∙ sym (ap (λ s. s g) (is_root-none (font_of Full file) wanted (none_there file)));
}
roots_full Lean file wanted seeds full is = absurd (let n : Lean ≡ Full = full in cc)
roots_full Layout file wanted seeds full is = absurd (let n : Layout ≡ Full = full in cc)
roots_full Variable file wanted seeds full is = absurd (let n : Variable ≡ Full = full in cc)

-- what is reached from the roots is what a cut keeps
is_kept_as : (kind : Kind) (file : List ℕ) (wanted : Wanted) → fault_of kind file ≡ None → (g : ℕ)
    → Decides (is_kept (font_of kind file) wanted g)
    (Reach (outline_of file) (is_root (font_of kind file) wanted) g)
is_kept_as kind file wanted accepted g = is_kept-by (settings kind) (settings-are kind) file accepted wanted g

pub kept_marked : (kind : Kind) (file : List ℕ) (wanted : Wanted) (roots marks : List Bool)
    → fault_of kind file ≡ None → IsRootSet kind file wanted roots → length marks ≡ glyph_count_of file
    → ((g : ℕ) → has marks g ≡ true ↔ Reach (outline_of file) (has roots) g) → IsKeptSet kind file wanted marks
kept_marked kind file wanted roots marks accepted is count reached =
    let same : has roots ≡ is_root (font_of kind file) wanted = fun_ext is.roots in
    record {
      count = count;
      kept = λ g.
          let decided = is_kept_as kind file wanted accepted g in
          both_ways (has marks g) (is_kept (font_of kind file) wanted g)
          (λ h. decided.1 (subst (λ (s : ℕ → Bool). Reach (outline_of file) s g) same ((reached g).0 h)))
          (λ h. (reached g).1 (subst (λ (s : ℕ → Bool). Reach (outline_of file) s g) (sym same) (decided.0 h)));
    }

-- the map of an accepted file is a character map
pub whole_map : (file : List ℕ) (count : ℕ) → font_fault file ≡ None → count ≡ glyph_count_of file → count < 65536
    → IsCharacterMap (restricted (λ _. true) (map_of file))
whole_map file count accepted is small =
    record {
      codes = λ c past. wanted_past file (λ _. true) accepted c (subst (λ (n : ℕ). n ≤ c) (sym codes_are) past);
      glyphs = λ c. omega (arith, wanted_below file (λ _. true) accepted c, is, small);
    }
