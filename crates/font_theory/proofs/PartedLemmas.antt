-- The tables that are divided are divided as is asked.
use Rattle.std.proofs.Common.{◌≡◌, ℕ, ◌+◌, ◌-◌, ◌*◌, ◌<◌, ◌≤◌, Bool, true, false, cond, nat_eq, nat_lt, ◌||◌, ◌⊎◌, inl}
use Rattle.std.proofs.Common.{inr, List, [], ◌++◌, length, get_or, replicate, take, drop, refl, sym, ◌∙◌, ap, subst}
use Rattle.std.proofs.Common.{arith, Option}
use Rattle.std.specs.Str.{bytes_eq}
use Rattle.std.proofs.lemmas.Bool.{cases_Bool, cases_lt, le-ltb, lt-ltb, ltb-false, or_parts}
use Rattle.std.proofs.lemmas.List.{get_or-replicate, length-drop, length-take, take-take}
use Rattle.std.proofs.lemmas.Slice.Eq.{bytes_eq-Decides}
use Rattle.sfnt_bytes.specs.declared.tag.TheConstants.{FVAR, GVAR, HHEA, HMTX, POST, VHEA, VMTX}
use Rattle.font_tables.specs.Fields.{number_of_h_metrics}
use Rattle.font_tables.specs.Refusals.{is_bad_hhea, is_bad_hmtx}
use Rattle.font_variations.specs.Gvar.{front_of, is_bad_variations, shared_tuples_of}
use Rattle.font_variations.specs.MadeGvar.{gvar_bytes}
use Rattle.font_variations.proofs.LawLemmas.{made_read, parts_accepted, parts_fit}
use Rattle.font_theory.specs.Bytes.{bytes32}
use Rattle.font_theory.specs.Content.{glyph_count, table_in_slot}
use Rattle.font_theory.specs.Kinds.{all_undivided, by_metrics, by_variations}
use Rattle.font_theory.specs.Parted.{bare, entry_start, gvar_with, laid, metric_bytes, metrics, nameless, pairs_of}
use Rattle.font_theory.specs.Parted.{thin_post, variations}
use Rattle.font_theory.specs.Parting.{AlwaysFits, IsParting, IsPartition, Parting, Tables, is_bad_at, may_divide}
use Rattle.font_theory.specs.Parting.{undivided}
use Rattle.font_theory.proofs.EntryLemmas.{AreThere, entry_size-four, four, four-same, four-zero, get_or-four}
use Rattle.font_theory.proofs.EntryLemmas.{laid-laid, length-laid, metric_bytes-is, metric_bytes-laid}
use Rattle.font_theory.proofs.PartLemmas.{by_slot, no_slot}

-- nothing of a table is of a glyph
pub IsParting-undivided : (bad : Tables → List ℕ → Bool) → IsParting bad undivided
unfolding undivided
IsParting-undivided bad = record {
  frame_good = λ c t h. h;
  whole_good = λ c frame parts h fit. h;
  frame_again = λ c t h. refl;
  own_fit = λ c t h. refl;
  fewer_fit = λ c frame parts fewer h fit few. refl;
  frame_is = λ c frame parts h fit. refl;
  part_is = λ c frame parts g h fit low part. elim part [ inl e ↦ sym e | inr w ↦ w.2 ];
}

-- `post` without names has none to lose
pub thin_post-short : (b : List ℕ) → length b < 32 → thin_post b ≡ b
unfolding thin_post
thin_post-short b short = let t = lt-ltb (length b) 32 short in rw t refl

thin_post-long : (b : List ℕ) → 32 ≤ length b → thin_post b ≡ bytes32 0x00030000 ++ take 28 (drop 4 b)
unfolding thin_post
thin_post-long b long = let f = le-ltb (length b) 32 long in rw f refl

pub length-thin_post : (b : List ℕ) → length (thin_post b) ≤ length b
length-thin_post b =
    elim (cases_lt (length b) 32) [
      | inl short ↦ let e = ap (λ (x : List ℕ). length x) (thin_post-short b short) in omega arith
      | inr long ↦ let e = ap (λ (x : List ℕ). length x) (thin_post-long b long) in
          let rest : length (take 28 (drop 4 b)) ≡ 28 = simp (length-take, length-drop) (omega arith) in omega arith
    ]

thin_post-thin_post : (b : List ℕ) → thin_post (thin_post b) ≡ thin_post b
thin_post-thin_post b =
    elim (cases_lt (length b) 32) [
      | inl short ↦ ap thin_post (thin_post-short b short)
      | inr long ↦
          let x = take 28 (drop 4 b) in
          let rest : length x ≡ 28 = simp (length-take, length-drop) (omega arith) in
          ap thin_post (thin_post-long b long) ∙ thin_post-long (bytes32 0x00030000 ++ x) (omega arith)
          ∙ ap (λ (y : List ℕ). bytes32 0x00030000 ++ y) (take-take 28 28 (drop 4 b) (omega arith))
          ∙ sym (thin_post-long b long)
    ]

pub IsParting-nameless : IsParting (λ _ _. false) nameless
unfolding nameless
IsParting-nameless = record {
  frame_good = λ c t h. refl;
  whole_good = λ c frame parts h fit. refl;
  frame_again = λ c t h. thin_post-thin_post t;
  own_fit = λ c t h. refl;
  fewer_fit = λ c frame parts fewer h fit few. refl;
  frame_is = λ c frame parts h fit. refl;
  part_is = λ c frame parts g h fit low part. elim part [ inl e ↦ sym e | inr w ↦ w.2 ];
}

-- how many pairs there are depends on the length of the table, and they and the bearings after them stand in it
pub pairs_of-length : (c : Tables) (header : ℕ) (t u : List ℕ) → length t ≡ length u
    → pairs_of c header t ≡ pairs_of c header u
unfolding pairs_of
pairs_of-length c header t u e =
    let k = number_of_h_metrics (table_in_slot c header) in
    λ i. cond (is_bad_hhea (table_in_slot c header) (glyph_count c) || nat_lt (e i) (4 * k + 2 * (glyph_count c - k))) 0
    k

pub are_there : (c : Tables) (header : ℕ) (t : List ℕ) → AreThere (pairs_of c header t) (glyph_count c) t
unfolding pairs_of
are_there c header t =
    let k = number_of_h_metrics (table_in_slot c header) in
    let n = glyph_count c in
    elim (cases_Bool (is_bad_hhea (table_in_slot c header) n || is_bad_hmtx t k n)) [
      | inl bad ↦ rw bad (record { few = λ s. absurd (omega (arith, s)); room = λ s. absurd (omega (arith, s)) })
      | inr f ↦
          let w = or_parts (is_bad_hhea (table_in_slot c header) n) (is_bad_hmtx t k n) f in
          let hhea = or_parts (nat_lt (length (table_in_slot c header)) 36 || nat_eq k 0) (nat_lt n k) w.0 in
          let few : k ≤ n = ltb-false n k hhea.1 in
          let room : 4 * k + 2 * (n - k) ≤ length t = ltb-false _ _ w.1 in
          rw f (record { few = λ s. few; room = λ s. omega arith })
    ]

-- bytes, or none where all are 0
pub bare-zeros : bare (replicate 4 0) ≡ []
unfolding bare
bare-zeros = ap (λ b. cond b [] (replicate 4 0)) ((bytes_eq-Decides (replicate 4 0) (replicate 4 0)).1 refl)

pub bare-cases : (b : List ℕ) → ((b ≡ replicate 4 0) × (bare b ≡ [])) ⊎ (bare b ≡ b)
unfolding bare
bare-cases b =
    elim (cases_Bool (bytes_eq b (replicate 4 0))) [
      | inl t ↦ inl ((bytes_eq-Decides b (replicate 4 0)).0 t, ap (λ x. cond x [] b) t)
      | inr f ↦ inr (ap (λ x. cond x [] b) f)
    ]

pub get_or-bare : (b : List ℕ) (i : ℕ) → i < 4 → get_or (bare b) i 0 ≡ get_or b i 0
get_or-bare b i low =
    elim (bare-cases b) [
      | inl w ↦ ap (λ (l : List ℕ). get_or l i 0) w.1
          ∙ sym (ap (λ (l : List ℕ). get_or l i 0) w.0 ∙ get_or-replicate 4 i 0 0 low)
      | inr e ↦ ap (λ (l : List ℕ). get_or l i 0) e
    ]

-- the bytes of a glyph, laid over a table, are those of the glyph in it
pub four-bare : (k g : ℕ) (t : List ℕ) → four k g (λ i. get_or (bare (metric_bytes k t g)) i 0) ≡ metric_bytes k t g
four-bare k g t =
    four-same k g _ _ (λ i low.
    let few = entry_size-four k g in
    get_or-bare (metric_bytes k t g) i (omega arith)
    ∙ ap (λ (l : List ℕ). get_or l i 0) (metric_bytes-is k t g)
    ∙ get_or-four k g (λ j. get_or t (entry_start k g + j) 0) i low)
    ∙ sym (metric_bytes-is k t g)

-- a table with the bytes of glyphs is made anew as the table is that it is made of
pub laid_again : (header : ℕ) (c : Tables) (f : List ℕ) (parts before : ℕ → List ℕ)
    → laid parts (pairs_of c header (laid before (pairs_of c header f) (glyph_count c) f)) (glyph_count c)
    (laid before (pairs_of c header f) (glyph_count c) f) ≡ laid parts (pairs_of c header f) (glyph_count c) f
laid_again header c f parts before =
    let k = pairs_of c header f in
    let n = glyph_count c in
    ap (λ (x : ℕ). laid parts x n (laid before k n f))
    (pairs_of-length c header (laid before k n f) f (length-laid before k n f))
    ∙ laid-laid parts before k n f

module _ (bad : Tables → List ℕ → Bool) (alike : (c : Tables) (t u : List ℕ) → length t ≡ length u → bad c t ≡ bad c u)
    (header : ℕ) where
  part-laid : (c : Tables) (f : List ℕ) (parts : ℕ → List ℕ) (g : ℕ) → g < glyph_count c
      → (parts g ≡ []) ⊎ ((t : List ℕ) × (laid (λ _. []) (pairs_of c header t) (glyph_count c) t ≡ f)
      × (bare (metric_bytes (pairs_of c header t) t g) ≡ parts g))
      → bare (metric_bytes (pairs_of c header (laid parts (pairs_of c header f) (glyph_count c) f))
      (laid parts (pairs_of c header f) (glyph_count c) f) g) ≡ parts g
  part-laid c f parts g low part =
      let k = pairs_of c header f in
      let n = glyph_count c in
      ap (λ (x : ℕ). bare (metric_bytes x (laid parts k n f) g))
      (pairs_of-length c header (laid parts k n f) f (length-laid parts k n f))
      ∙ ap bare (metric_bytes-laid parts k n f g (are_there c header f) low)
      ∙ elim part [
        | inl e ↦ ap (λ (l : List ℕ). bare (four k g (λ i. get_or l i 0))) e ∙ ap bare (four-zero k g) ∙ bare-zeros
            ∙ sym e
        | inr w ↦
            let t : List ℕ = w.0 in
            let size = length-laid (λ _. []) (pairs_of c header t) n t in
            let same : length f ≡ length t = sym (ap (λ (l : List ℕ). length l) w.1) ∙ size in
            let own : metric_bytes k t g ≡ metric_bytes (pairs_of c header t) t g =
            ap (λ (x : ℕ). metric_bytes x t g) (pairs_of-length c header f t same) in
            let is : parts g ≡ bare (metric_bytes k t g) = sym w.2 ∙ sym (ap bare own) in
            ap (λ (l : List ℕ). bare (four k g (λ i. get_or l i 0))) is ∙ ap bare (four-bare k g t) ∙ sym is
      ]

  pub IsParting-metrics : IsParting bad (metrics header)
  unfolding metrics
  IsParting-metrics = record {
    frame_good = λ c t h. alike c _ t (length-laid (λ _. []) (pairs_of c header t) (glyph_count c) t) ∙ h;
    whole_good = λ c f parts h fit. alike c _ f (length-laid parts (pairs_of c header f) (glyph_count c) f) ∙ h;
    frame_again = λ c t h. laid_again header c t (λ _. []) (λ _. []);
    own_fit = λ c t h. refl;
    fewer_fit = λ c f parts fewer h fit few. refl;
    frame_is = λ c f parts h fit. laid_again header c f (λ _. []) parts;
    part_is = λ c f parts g h fit low part. part-laid c f parts g low part;
  }

-- a `gvar` that is made of a `gvar` that is made of another one is made of that one
pub gvar_with-again : (of_glyph before : ℕ → List ℕ) (n : ℕ) (table : List ℕ) (fvar : Option (List ℕ))
    → is_bad_variations table fvar n ≡ false
    → gvar_with of_glyph n (gvar_with before n table) ≡ gvar_with of_glyph n table
gvar_with-again of_glyph before n table fvar ok =
    let made = made_read (front_of table) (shared_tuples_of table) before n (parts_fit table fvar n ok) in
    λ i. gvar_bytes (made.front_is i) (made.shared_is i) of_glyph n

pub IsParting-variations : IsParting (λ c t. is_bad_variations t (c FVAR) (glyph_count c)) variations
unfolding variations
IsParting-variations = record {
  frame_good = λ c t h. parts_accepted t (c FVAR) (glyph_count c) (λ _. []) h;
  whole_good = λ c f parts h fit. parts_accepted f (c FVAR) (glyph_count c) parts h;
  frame_again = λ c t h. gvar_with-again (λ _. []) (λ _. []) (glyph_count c) t (c FVAR) h;
  own_fit = λ c t h. refl;
  fewer_fit = λ c f parts fewer h fit few. refl;
  frame_is = λ c f parts h fit. gvar_with-again (λ _. []) parts (glyph_count c) f (c FVAR) h;
  part_is = λ c f parts g h fit low part.
      (made_read (front_of f) (shared_tuples_of f) parts (glyph_count c) (parts_fit f (c FVAR) (glyph_count c)
      h)).data_is
      g low;
}

-- parts have room in each of these tables
fits-metrics : (header : ℕ) (c : Tables) (f : List ℕ) (parts : ℕ → List ℕ) → (metrics header).fits c f parts ≡ true
unfolding metrics
fits-metrics header c f parts = refl

fits-nameless : (c : Tables) (f : List ℕ) (parts : ℕ → List ℕ) → nameless.fits c f parts ≡ true
unfolding nameless
fits-nameless c f parts = refl

fits-variations : (c : Tables) (f : List ℕ) (parts : ℕ → List ℕ) → variations.fits c f parts ≡ true
unfolding variations
fits-variations c f parts = refl

fits-undivided : (c : Tables) (f : List ℕ) (parts : ℕ → List ℕ) → undivided.fits c f parts ≡ true
unfolding undivided
fits-undivided c f parts = refl

pub AlwaysFits-undivided : AlwaysFits all_undivided
AlwaysFits-undivided slot = fits-undivided

-- by slots
pub IsPartition-undivided : IsPartition all_undivided
IsPartition-undivided = record { law = λ slot. IsParting-undivided (is_bad_at slot); others = λ slot _. refl }

bad_hmtx-length : (k n : ℕ) (t u : List ℕ) → length t ≡ length u → is_bad_hmtx t k n ≡ is_bad_hmtx u k n
bad_hmtx-length k n t u e = ap (λ (x : ℕ). nat_lt x (4 * k + 2 * (n - k))) e

pub other-metrics : (slot : ℕ) → nat_eq slot HMTX ≡ false → nat_eq slot POST ≡ false → nat_eq slot VMTX ≡ false
    → by_metrics slot ≡ undivided
other-metrics slot a b c = rw (a, b, c) refl

pub IsPartition-metrics : IsPartition by_metrics
IsPartition-metrics = record {
  law = by_slot (λ slot. IsParting (is_bad_at slot) (by_metrics slot)) (IsParting-undivided (is_bad_at GVAR))
      (IsParting-metrics (is_bad_at HMTX) (λ c t u e. bad_hmtx-length _ _ t u e) HHEA)
      IsParting-nameless
      (IsParting-metrics (λ _ _. false) (λ c t u e. refl) VHEA)
      (λ slot d a b c. subst (IsParting (is_bad_at slot)) (sym (other-metrics slot a b c))
      (IsParting-undivided (is_bad_at slot)));
  others = by_slot (λ slot. may_divide slot ≡ false → by_metrics slot ≡ undivided) (λ _. refl)
      (λ e. no_slot (sym e)) (λ e. no_slot (sym e)) (λ e. no_slot (sym e))
      (λ slot d a b c _. other-metrics slot a b c);
}

pub AlwaysFits-metrics : AlwaysFits by_metrics
AlwaysFits-metrics = by_slot
    (λ slot. (c : Tables) (f : List ℕ) (parts : ℕ → List ℕ) → (by_metrics slot).fits c f parts ≡ true)
    fits-undivided (fits-metrics HHEA) fits-nameless (fits-metrics VHEA)
    (λ slot d a b c t f parts. ap (λ (D : Parting). D.fits t f parts) (other-metrics slot a b c)
    ∙ fits-undivided t f parts)

pub AlwaysFits-variations : AlwaysFits by_variations
AlwaysFits-variations = by_slot
    (λ slot. (c : Tables) (f : List ℕ) (parts : ℕ → List ℕ) → (by_variations slot).fits c f parts ≡ true)
    fits-variations (fits-metrics HHEA) fits-nameless (fits-metrics VHEA)
    (λ slot d a b c t f parts.
    let e : by_variations slot ≡ undivided = rw d (other-metrics slot a b c) in
    ap (λ (D : Parting). D.fits t f parts) e ∙ fits-undivided t f parts)

pub IsPartition-variations : IsPartition by_variations
IsPartition-variations = record {
  law = by_slot (λ slot. IsParting (is_bad_at slot) (by_variations slot)) IsParting-variations
      (IsPartition-metrics.law HMTX) (IsPartition-metrics.law POST) (IsPartition-metrics.law VMTX)
      (λ slot d a b c. subst (IsParting (is_bad_at slot)) (sym (rw d (other-metrics slot a b c)))
      (IsParting-undivided (is_bad_at slot)));
  others = by_slot (λ slot. may_divide slot ≡ false → by_variations slot ≡ undivided) (λ e. no_slot (sym e))
      (λ e. no_slot (sym e)) (λ e. no_slot (sym e)) (λ e. no_slot (sym e))
      (λ slot d a b c _. rw d (other-metrics slot a b c));
}
