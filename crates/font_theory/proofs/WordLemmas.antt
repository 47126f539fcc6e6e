-- Divided tables, parts and what cuts are written of, in the words of each table.
use Rattle.std.proofs.Common.{◌≡◌, ◌≢◌, ℕ, ◌+◌, ◌-◌, ◌*◌, ◌<◌, ◌&&◌, ◌||◌, Bool, true, false, cond, nat_eq, nat_le}
use Rattle.std.proofs.Common.{nat_lt, not, ◌⊎◌, inl, inr, List, [], ◌++◌, length, get_or, replicate, take, drop, refl}
use Rattle.std.proofs.Common.{sym, ◌∙◌}
use Rattle.std.proofs.Common.{ap, subst, arith, is_some, Option, Some, None, unwrap_or}
use Rattle.std.specs.Option.{option_map, option_map_or}
use Rattle.std.proofs.Math.Path.{fun_ext}
use Rattle.std.proofs.Math.Seq.{drop-nil, take-nil}
use Rattle.std.proofs.lemmas.Bool.{cases_Bool, cases_eq, eqb-false, le-ltb, lt-leb, ne_eqb, or_parts}
use Rattle.std.proofs.lemmas.List.{drop_at, ext_get_or, take_at}
use Rattle.sfnt_bytes.specs.Lines.{when}
use Rattle.sfnt_bytes.specs.declared.tag.TheConstants.{GVAR, HHEA, HMTX, POST, VHEA, VMTX}
use Rattle.font_tables.specs.Fields.{number_of_h_metrics}
use Rattle.font_tables.specs.Metrics.{metric_in}
use Rattle.font_variations.specs.Gvar.{data_of}
use Rattle.font_theory.specs.Bytes.{padded}
use Rattle.font_theory.specs.Content.{Content, Font, IsFont, Wanted, content, glyph_count, is_kept, metric_count}
use Rattle.font_theory.specs.Content.{table_in_slot}
use Rattle.font_theory.specs.Kinds.{by_metrics, by_variations, kept_data, reduced}
use Rattle.font_theory.specs.Parted.{bare, cleared, entry_size, entry_start, gvar_with, holder, is_entry, laid}
use Rattle.font_theory.specs.Parted.{metric_bytes, metrics, metrics_at, nameless, pairs_in, pairs_of, place_in_entry}
use Rattle.font_theory.specs.Parted.{thin_post, variation_data, variations}
use Rattle.font_theory.specs.Parting.{IsPartition, Parting, Partition, Tables, context, divided, frames, parts_of}
use Rattle.font_theory.specs.Parting.{undivided}
use Rattle.font_theory.proofs.ContentLemmas.{IsFont-read_back, nothing_either}
use Rattle.font_theory.proofs.DividedLemmas.{IsDivided-content, IsFont-divided, is_kept-divided, parts-whole}
use Rattle.font_theory.proofs.DividedLemmas.{reduced-is}
use Rattle.font_theory.proofs.EntryLemmas.{AreThere, entry-some, entry_size-four, entry_size-some, four-same}
use Rattle.font_theory.proofs.EntryLemmas.{four-zero, get_or-cleared, get_or-four, get_or-laid, is_byte_of, is_place}
use Rattle.font_theory.proofs.EntryLemmas.{length-cleared, length-laid, length-metric_bytes, metric_bytes-is}
use Rattle.font_theory.proofs.HeldLemmas.{cases_option}
use Rattle.font_theory.proofs.MetricLemmas.{metric_in-same}
use Rattle.font_theory.proofs.PartLemmas.{frames-other, glyph_count-alike, good-font, metric_count-alike}
use Rattle.font_theory.proofs.PartLemmas.{parts_of-alike, parts_of-at}
use Rattle.font_theory.proofs.PartLemmas.{map_same, AreAlike, frames-undivided, parts_of-none, parts_of-undivided}
use Rattle.font_theory.proofs.PartLemmas.{wholes-other, wholes-undivided}
use Rattle.font_theory.proofs.WantedLemmas.{IsKept-below, is_kept-decides}
use Rattle.font_theory.proofs.PartedLemmas.{are_there, bare-cases, bare-zeros, get_or-bare, gvar_with-again, laid_again}
use Rattle.font_theory.proofs.PartedLemmas.{IsPartition-metrics, other-metrics}

pub map_alike : (f g : List ℕ → List ℕ) (o : Option (List ℕ)) → ((t : List ℕ) → o ≡ Some t → f t ≡ g t)
    → option_map f o ≡ option_map g o
map_alike f g None same = refl
map_alike f g (Some t) same = ap Some (same t refl)

-- the bytes of the glyphs that are kept, laid over a table, leave zeros for the others
module _ (keeps : ℕ → Bool) (k n : ℕ) (t : List ℕ) (there : AreThere k n t) where
  abbrev bytes : ℕ → List ℕ
  bytes g = cond (keeps g) (bare (metric_bytes k t g)) []

  kept_byte : (g w : ℕ) → w < entry_size k g → get_or (bare (metric_bytes k t g)) w 0 ≡ get_or t (entry_start k g + w) 0
  kept_byte g w small =
      let few = entry_size-four k g in
      get_or-bare (metric_bytes k t g) w (omega arith)
      ∙ ap (λ (l : List ℕ). get_or l w 0) (metric_bytes-is k t g)
      ∙ get_or-four k g (λ i. get_or t (entry_start k g + i) 0) w small

  at_byte : (j : ℕ) → cond (is_entry k n j) (get_or (bytes (holder k j)) (place_in_entry k j) 0) (get_or t j 0)
      ≡ cond (is_entry k n j && not (keeps (holder k j))) 0 (get_or t j 0)
  at_byte j =
      let g = holder k j in
      let w = place_in_entry k j in
      let old : ℕ = get_or t j 0 in
      let own : List ℕ = bare (metric_bytes k t g) in
      elim (cases_Bool (is_entry k n j)) [
        | inr f ↦ ap (λ b. cond b (get_or (bytes g) w 0) old) f ∙ sym (ap (λ b. cond (b && not (keeps g)) 0 old) f)
        | inl e ↦
            let place = is_place k n j (there.few (entry-some k n j e)) e in
            elim (cases_Bool (keeps g)) [
              | inl on ↦
                  (λ i. cond (e i) (get_or (cond (on i) own []) w 0) old)
                  ∙ kept_byte g w place.small ∙ ap (λ (x : ℕ). get_or t x 0) place.at
                  ∙ sym (λ i. cond (e i && not (on i)) 0 old)
              | inr off ↦
                  (λ i. cond (e i) (get_or (cond (off i) own []) w 0) old) ∙ sym (λ i. cond (e i && not (off i)) 0 old)
            ]
      ]

  laid-cleared : laid bytes k n t ≡ cleared keeps k n t
  laid-cleared =
      let size = length-laid bytes k n t in
      let size' = length-cleared keeps k n t in
      ext_get_or 0 _ _ (omega arith) (λ j low. get_or-laid bytes k n t j (omega arith) ∙ at_byte j
      ∙ sym (get_or-cleared keeps k n t j (omega arith)))

  -- they leave the bytes of each kept glyph, and the last advance
  pub byte-cleared : (g i : ℕ) → g < n → keeps g ≡ true → i < entry_size k g
      → get_or (cleared keeps k n t) (entry_start k g + i) 0 ≡ get_or t (entry_start k g + i) 0
  byte-cleared g i low on small =
      let some = entry_size-some k g i small in
      let b = is_byte_of k n g i some (there.few some) low small in
      let room = there.room some in
      let inside = b.inside in
      get_or-cleared keeps k n t (entry_start k g + i) (omega arith)
      ∙ (λ p. cond (b.is_entry p && not (keeps (b.holder p))) 0 (get_or t (entry_start k g + i) 0))
      ∙ ap (λ x. cond (not x) 0 (get_or t (entry_start k g + i) 0)) on

  -- the last pair's advance is of no glyph alone
  last_not : (e : ℕ) → 0 < k → e < 2 → is_entry k n (4 * (k - 1) + e) ≡ false
  unfolding is_entry
  last_not e some small =
      let ne : nat_eq k 0 ≡ false = ne_eqb k 0 (λ x. omega arith) in
      let a : nat_lt (4 * (k - 1) + e + 4) (4 * k) ≡ false = le-ltb _ _ (omega arith) in
      let b : nat_le (4 * k) (4 * (k - 1) + e + 2) ≡ false = lt-leb _ _ (omega arith) in
      rw (ne, a, b) (both (nat_lt (4 * (k - 1) + e) (2 * (k + n))))
    where
      both : (x : Bool) → (x && false) ≡ false
      both true = refl
      both false = refl

  pub last-cleared : (e : ℕ) → 0 < k → e < 2
      → get_or (cleared keeps k n t) (4 * (k - 1) + e) 0 ≡ get_or t (4 * (k - 1) + e) 0
  last-cleared e some small =
      let few = there.few some in
      let room = there.room some in
      get_or-cleared keeps k n t (4 * (k - 1) + e) (omega arith)
      ∙ ap (λ b. cond (b && not (keeps (holder k (4 * (k - 1) + e)))) 0 (get_or t (4 * (k - 1) + e) 0))
      (last_not e some small)

-- a table of metrics that is made of its frame and of the parts of the kept glyphs
pub metrics-reduced : (header : ℕ) (c : Tables) (keeps : ℕ → Bool) (t : List ℕ)
    → (metrics header).whole c ((metrics header).frame c t) (λ g. cond (keeps g) ((metrics header).part c t g) [])
    ≡ cleared keeps (pairs_of c header t) (glyph_count c) t
unfolding metrics
metrics-reduced header c keeps t =
    laid_again header c t _ (λ _. [])
    ∙ laid-cleared keeps (pairs_of c header t) (glyph_count c) t (are_there c header t)

-- what a slot has depends on how that slot is divided
pub reduced-slot : (p q : Partition) (K : Content) (slot : ℕ) → p slot ≡ q slot
    → (reduced p K).copied slot ≡ (reduced q K).copied slot
unfolding reduced
reduced-slot p q K slot e =
    λ i. option_map (λ t. (e i).whole (context K.copied) ((e i).frame (context K.copied) t)
    (λ g. cond (is_some (K.outline g)) ((e i).part (context K.copied) t g) [])) (K.copied slot)

-- what is not divided stays
pub reduced-undivided : (p : Partition) (K : Content) (slot : ℕ) → p slot ≡ undivided
    → (reduced p K).copied slot ≡ K.copied slot
unfolding reduced undivided
reduced-undivided p K slot e =
    ap (λ (D : Parting). option_map (λ t. D.whole (context K.copied) (D.frame (context K.copied) t)
    (λ g. cond (is_some (K.outline g)) (D.part (context K.copied) t g) [])) (K.copied slot)) e
    ∙ map_same (K.copied slot)

-- the headers of metrics are of the context
pub pairs-across : (c : Tables) (t : List ℕ) → pairs_of (context c) HHEA t ≡ pairs_of c HHEA t
unfolding pairs_of context glyph_count
pairs-across c t = refl

pub pairs-down : (c : Tables) (t : List ℕ) → pairs_of (context c) VHEA t ≡ pairs_of c VHEA t
unfolding pairs_of context glyph_count
pairs-down c t = refl

pub count-context : (c : Tables) → glyph_count (context c) ≡ glyph_count c
unfolding context glyph_count
count-context c = refl

pub table_is : (c : Tables) (slot : ℕ) (t : List ℕ) → c slot ≡ Some t → t ≡ table_in_slot c slot
table_is c slot t e = sym (ap (λ (o : Option (List ℕ)). unwrap_or o []) e)

module _ (F : Font) (A : Wanted) where
  pub keeps-is : (λ g. is_some ((content F A).outline g)) ≡ is_kept F A
  keeps-is = fun_ext (λ g. go (is_kept F A g) (padded (F.outline g)))
    where
      go : (b : Bool) (x : List ℕ) → is_some (when b x) ≡ b
      go true x = refl
      go false x = refl

  abbrev C : Tables
  C = F.copied

  abbrev n : ℕ
  n = glyph_count F.copied

  -- `hmtx`, `vmtx`, `post` and `gvar` that a cut is written of
  pub hmtx-reduced : (reduced by_metrics (content F A)).copied HMTX
      ≡ option_map (cleared (is_kept F A) (pairs_in C HHEA HMTX) n) (C HMTX)
  unfolding reduced
  hmtx-reduced = map_alike _ _ (C HMTX) (λ t e.
      metrics-reduced HHEA (context C) (λ g. is_some ((content F A).outline g)) t
      ∙ (λ i. cleared (keeps-is i) ((pairs-across C t ∙ ap (pairs_of C HHEA) (table_is C HMTX t e)) i)
      (count-context C i) t))

  pub vmtx-reduced : (reduced by_metrics (content F A)).copied VMTX
      ≡ option_map (cleared (is_kept F A) (pairs_in C VHEA VMTX) n) (C VMTX)
  unfolding reduced
  vmtx-reduced = map_alike _ _ (C VMTX) (λ t e.
      metrics-reduced VHEA (context C) (λ g. is_some ((content F A).outline g)) t
      ∙ (λ i. cleared (keeps-is i) ((pairs-down C t ∙ ap (pairs_of C VHEA) (table_is C VMTX t e)) i)
      (count-context C i) t))

  pub post-reduced : (reduced by_metrics (content F A)).copied POST ≡ option_map thin_post (C POST)
  unfolding reduced nameless
  post-reduced = refl

  pub gvar-reduced : IsFont F → (reduced by_variations (content F A)).copied GVAR
      ≡ option_map (gvar_with (kept_data F A) n) (C GVAR)
  unfolding reduced variations context glyph_count variation_data
  gvar-reduced ok = map_alike _ _ (C GVAR) (λ t e.
      gvar_with-again _ (λ _. []) n t _ (good-font F ok GVAR t e)
      ∙ (λ i. gvar_with (λ g. cond (keeps-is i g) (data_of (table_is C GVAR t e i) g) []) n t))

  pub others-reduced : (slot : ℕ) → slot ≢ GVAR → (reduced by_variations (content F A)).copied slot
      ≡ (reduced by_metrics (content F A)).copied slot
  others-reduced slot other =
      let f = ne_eqb slot GVAR other in reduced-slot by_variations by_metrics (content F A) slot (rw f refl)

data_of-nothing : (g : ℕ) → data_of [] g ≡ []
unfolding data_of
data_of-nothing g = simp (drop-nil, take-nil)

pub variation_data-none : (c : Tables) → c GVAR ≡ None → (g : ℕ) → variation_data c g ≡ []
unfolding variation_data
variation_data-none c none g = ap (λ (o : Option (List ℕ)). data_of (unwrap_or o []) g) none ∙ data_of-nothing g

-- the parts of a glyph in words: its bytes in `hmtx` and `vmtx`, if they are not all 0, and its data
nothing-there : (k g : ℕ) → bare (metric_bytes k [] g) ≡ []
nothing-there k g = ap bare (metric_bytes-is k [] g ∙ four-same k g _ (λ i. 0) (λ i h. refl) ∙ four-zero k g)
    ∙ bare-zeros

module _ (c : Tables) (g : ℕ) (low : g < glyph_count c) where
  pub part-across : parts_of by_metrics c HMTX g ≡ bare (metric_bytes (pairs_in c HHEA HMTX) (table_in_slot c HMTX) g)
  unfolding metrics
  part-across = elim (cases_option (c HMTX)) [
    | inl none ↦ parts_of-none by_metrics c HMTX g none
        ∙ sym (ap (λ (o : Option (List ℕ)). bare (metric_bytes (pairs_in c HHEA HMTX) (unwrap_or o []) g)) none
        ∙ nothing-there (pairs_in c HHEA HMTX) g)
    | inr w ↦ parts_of-at by_metrics c HMTX g w.0 low w.1
        ∙ (λ i. bare (metric_bytes ((pairs-across c w.0 ∙ ap (pairs_of c HHEA) (table_is c HMTX w.0 w.1)) i)
        (table_is c HMTX w.0 w.1 i) g))
  ]

  pub part-down : parts_of by_metrics c VMTX g ≡ bare (metric_bytes (pairs_in c VHEA VMTX) (table_in_slot c VMTX) g)
  unfolding metrics
  part-down = elim (cases_option (c VMTX)) [
    | inl none ↦ parts_of-none by_metrics c VMTX g none
        ∙ sym (ap (λ (o : Option (List ℕ)). bare (metric_bytes (pairs_in c VHEA VMTX) (unwrap_or o []) g)) none
        ∙ nothing-there (pairs_in c VHEA VMTX) g)
    | inr w ↦ parts_of-at by_metrics c VMTX g w.0 low w.1
        ∙ (λ i. bare (metric_bytes ((pairs-down c w.0 ∙ ap (pairs_of c VHEA) (table_is c VMTX w.0 w.1)) i)
        (table_is c VMTX w.0 w.1 i) g))
  ]

  pub part-data : parts_of by_variations c GVAR g ≡ variation_data c g
  unfolding variations variation_data
  part-data = elim (cases_option (c GVAR)) [
    | inl none ↦ parts_of-none by_variations c GVAR g none ∙ sym (variation_data-none c none g)
    | inr w ↦ parts_of-at by_variations c GVAR g w.0 low w.1
        ∙ ap (λ (x : List ℕ). data_of x g) (table_is c GVAR w.0 w.1)
  ]

-- no other table has a part of a glyph
no_names : (c : Tables) (g : ℕ) → parts_of by_metrics c POST g ≡ []
unfolding parts_of nameless
no_names c g = nothing_either (nat_lt g (glyph_count c)) _ (go (c POST))
  where
    go : (o : Option (List ℕ)) → option_map_or (λ t. nameless.part (context c) t g) o [] ≡ []
    go None = refl
    go (Some t) = refl

pub part-none : (c : Tables) (g slot : ℕ) → slot ≢ HMTX → slot ≢ VMTX → parts_of by_metrics c slot g ≡ []
part-none c g slot a b =
    elim (cases_eq slot POST) [
      | inl e ↦ subst (λ (x : ℕ). parts_of by_metrics c x g ≡ []) (sym e) (no_names c g)
      | inr d ↦ parts_of-undivided by_metrics c slot
          (other-metrics slot (ne_eqb slot HMTX a) (ne_eqb slot POST d) (ne_eqb slot VMTX b)) g
    ]

pub part-same : (c : Tables) (g slot : ℕ) → slot ≢ GVAR → parts_of by_variations c slot g ≡ parts_of by_metrics c slot g
part-same c g slot other =
    let f = ne_eqb slot GVAR other in parts_of-alike by_variations by_metrics c slot (rw f refl) g

-- so two glyphs have the same parts where they have the same metrics
bare-nil : (a : List ℕ) → length a ≡ 4 → bare a ≡ [] → a ≡ replicate 4 0
bare-nil a four e = elim (bare-cases a) [
  | inl w ↦ w.0
  | inr own ↦ let size : length a ≡ 0 = ap (λ (l : List ℕ). length l) (sym own ∙ e) in absurd (omega arith)
]

pub bare-same : (a b : List ℕ) → length a ≡ 4 → length b ≡ 4 → bare a ≡ bare b → a ≡ b
bare-same a b fa fb e = elim (bare-cases a) [
  | inl w ↦ w.0 ∙ sym (bare-nil b fb (sym e ∙ w.1))
  | inr own ↦ elim (bare-cases b) [
    | inl w ↦ bare-nil a fa (e ∙ w.1) ∙ sym w.0
    | inr also ↦ sym own ∙ e ∙ also
  ]
]

module _ (c d : Tables) (g : ℕ) (lowc : g < glyph_count c) (lowd : g < glyph_count d) where
  abbrev across : Tables → List ℕ
  across x = metric_bytes (pairs_in x HHEA HMTX) (table_in_slot x HMTX) g

  abbrev down : Tables → List ℕ
  down x = metric_bytes (pairs_in x VHEA VMTX) (table_in_slot x VMTX) g

  size_across : (x : Tables) → length (across x) ≡ 4
  size_across x = length-metric_bytes (pairs_in x HHEA HMTX) (table_in_slot x HMTX) g

  size_down : (x : Tables) → length (down x) ≡ 4
  size_down x = length-metric_bytes (pairs_in x VHEA VMTX) (table_in_slot x VMTX) g

  pub metrics-from : (parts_of by_metrics c HMTX g ≡ parts_of by_metrics d HMTX g)
      × (parts_of by_metrics c VMTX g ≡ parts_of by_metrics d VMTX g) → metrics_at c g ≡ metrics_at d g
  unfolding metrics_at
  metrics-from e =
      let a = bare-same (across c) (across d) (size_across c) (size_across d)
      (sym (part-across c g lowc) ∙ e.0 ∙ part-across d g lowd) in
      let b = bare-same (down c) (down d) (size_down c) (size_down d)
      (sym (part-down c g lowc) ∙ e.1 ∙ part-down d g lowd) in
      λ i. a i ++ b i

  pub parts-from : metrics_at c g ≡ metrics_at d g → (parts_of by_metrics c HMTX g ≡ parts_of by_metrics d HMTX g)
      × (parts_of by_metrics c VMTX g ≡ parts_of by_metrics d VMTX g)
  unfolding metrics_at
  parts-from e =
      let a : across c ≡ across d = sym (take_at (across c) (down c) 4 (size_across c)) ∙ ap (take 4) e
      ∙ take_at (across d) (down d) 4 (size_across d) in
      let b : down c ≡ down d = sym (drop_at (across c) (down c) 4 (size_across c)) ∙ ap (drop 4) e
      ∙ drop_at (across d) (down d) 4 (size_across d) in (
        part-across c g lowc ∙ ap bare a ∙ sym (part-across d g lowd),
        part-down c g lowc ∙ ap bare b ∙ sym (part-down d g lowd),
      )

-- what a cut is written of has the parts of the kept glyphs
module _ (p : Partition) (is : IsPartition p) (F : Font) (ok : IsFont F) (A : Wanted) where
  abbrev R : Content
  R = reduced p (content F A)

  pub alike-reduced : AreAlike F.copied R.copied
  alike-reduced slot f =
      ap (λ (K : Content). K.copied slot) (sym (reduced-is p is F ok A))
      ∙ wholes-other p is (frames p F.copied) (content (divided p F) A).parts slot f
      ∙ frames-other p is F.copied slot f

  pub count-reduced : glyph_count R.copied ≡ glyph_count F.copied
  count-reduced = glyph_count-alike F.copied R.copied alike-reduced

  pub metric_count-reduced : metric_count R.copied ≡ metric_count F.copied
  metric_count-reduced = metric_count-alike F.copied R.copied alike-reduced

  pub parts-reduced : (slot g : ℕ) → parts_of p R.copied slot g ≡ cond (is_kept F A g) (parts_of p F.copied slot g) []
  parts-reduced slot g =
      ap (λ (K : Content). parts_of p K.copied slot g) (sym (reduced-is p is F ok A))
      ∙ parts-whole p is (content (divided p F) A) (IsFont-read_back (divided p F) A (IsFont-divided p is F ok))
      (IsDivided-content p is F A ok) slot g
      ∙ ap (λ k. cond (k g) (parts_of p F.copied slot g) []) (is_kept-divided p is F A)

-- and their metrics
pub metrics-kept : (F : Font) (ok : IsFont F) (A : Wanted) (g : ℕ) → g < glyph_count F.copied
    → metrics_at (reduced by_metrics (content F A)).copied g ≡ cond (is_kept F A g) (metrics_at F.copied g)
    (replicate 8 0)
unfolding metrics_at
metrics-kept F ok A g low =
    let R : Content = reduced by_metrics (content F A) in
    let here : g < glyph_count R.copied =
    subst (λ (x : ℕ). g < x) (sym (count-reduced by_metrics IsPartition-metrics F ok A)) low in
    let part : (slot : ℕ) → parts_of by_metrics R.copied slot g
    ≡ cond (is_kept F A g) (parts_of by_metrics F.copied slot g) [] =
    λ slot. parts-reduced by_metrics IsPartition-metrics F ok A slot g in
    elim (cases_Bool (is_kept F A g)) [
      | inl t ↦
          let same : (slot : ℕ) → parts_of by_metrics R.copied slot g ≡ parts_of by_metrics F.copied slot g =
          λ slot. part slot ∙ ap (λ b. cond b (parts_of by_metrics F.copied slot g) []) t in
          metrics-from R.copied F.copied g here low (same HMTX, same VMTX)
          ∙ sym (ap (λ b. cond b (metrics_at F.copied g) (replicate 8 0)) t)
      | inr f ↦
          let none : (slot : ℕ) → parts_of by_metrics R.copied slot g ≡ [] =
          λ slot. part slot ∙ ap (λ b. cond b (parts_of by_metrics F.copied slot g) []) f in
          let a = bare-nil (across R.copied R.copied g here here R.copied)
          (size_across R.copied R.copied g here here R.copied)
          (sym (part-across R.copied g here) ∙ none HMTX) in
          let b = bare-nil (down R.copied R.copied g here here R.copied)
          (size_down R.copied R.copied g here here R.copied)
          (sym (part-down R.copied g here) ∙ none VMTX) in
          (λ i. a i ++ b i) ∙ sym (ap (λ x. cond x (metrics_at F.copied g) (replicate 8 0)) f)
    ]

-- a font's header describes its metrics
pairs_in-font : (F : Font) → IsFont F → pairs_in F.copied HHEA HMTX ≡ metric_count F.copied
unfolding pairs_of metric_count
pairs_in-font F ok = λ i. cond (ok.hhea i || ok.hmtx i) 0 (number_of_h_metrics (table_in_slot F.copied HHEA))

not_zero : (k : ℕ) → (k ≡ 0 → ⊥) → 0 < k
not_zero k h = omega arith

some-font : (F : Font) → IsFont F → 0 < pairs_in F.copied HHEA HMTX
unfolding metric_count
some-font F ok =
    let e = pairs_in-font F ok in
    let k : ℕ = number_of_h_metrics (table_in_slot F.copied HHEA) in
    let hhea = or_parts (nat_lt (length (table_in_slot F.copied HHEA)) 36 || nat_eq k 0)
    (nat_lt (glyph_count F.copied) k) ok.hhea in
    let none = or_parts (nat_lt (length (table_in_slot F.copied HHEA)) 36) (nat_eq k 0) hhea.0 in
    let some : 0 < k = not_zero k (eqb-false k 0 none.1) in
    subst (λ (x : ℕ). 0 < x) (sym e) some

mapped-table : (f : List ℕ → List ℕ) → f [] ≡ [] → (o : Option (List ℕ)) → unwrap_or (option_map f o) []
    ≡ f (unwrap_or o [])
mapped-table f nil None = sym nil
mapped-table f nil (Some t) = refl

cleared-nil : (keeps : ℕ → Bool) (k n : ℕ) → cleared keeps k n [] ≡ []
unfolding cleared
cleared-nil keeps k n = refl

-- the metric of a glyph that is kept is that of the font
pub metric-kept : (p : Partition) → IsPartition p → (p HMTX ≡ undivided) ⊎ (p HMTX ≡ metrics HHEA) → (F : Font)
    → IsFont F → (A : Wanted) (g : ℕ) → is_kept F A g ≡ true
    → metric_in (table_in_slot (reduced p (content F A)).copied HMTX)
    (metric_count (reduced p (content F A)).copied) g
    ≡ metric_in (table_in_slot F.copied HMTX) (metric_count F.copied) g
metric-kept p is how F ok A g kept =
    let c = F.copied in
    let t = table_in_slot c HMTX in
    let k = pairs_in c HHEA HMTX in
    let n = glyph_count c in
    let R : Content = reduced p (content F A) in
    let there = are_there c HHEA t in
    let low = IsKept-below F A ok g ((is_kept-decides F A ok g).0 kept) in
    ap (λ (x : ℕ). metric_in (table_in_slot R.copied HMTX) x g) (metric_count-reduced p is F ok A)
    ∙ elim how [
      | inl e ↦ ap (λ (o : Option (List ℕ)). metric_in (unwrap_or o []) (metric_count c) g) (same_table e)
      | inr e ↦
          ap (λ (x : List ℕ). metric_in x (metric_count c) g)
          (ap (λ (o : Option (List ℕ)). unwrap_or o []) (moved e ∙ hmtx-reduced F A)
          ∙ mapped-table (cleared (is_kept F A) k n) (cleared-nil (is_kept F A) k n) (c HMTX))
          ∙ ap (λ (x : ℕ). metric_in (cleared (is_kept F A) k n t) x g) (sym (pairs_in-font F ok))
          ∙ metric_in-same t (cleared (is_kept F A) k n t) k g (some-font F ok)
          (λ i small. byte-cleared (is_kept F A) k n t there g i low kept small)
          (λ e small. last-cleared (is_kept F A) k n t there e (some-font F ok) small)
          ∙ ap (λ (x : ℕ). metric_in t x g) (pairs_in-font F ok)
    ]
  where
    same_table : p HMTX ≡ undivided → (reduced p (content F A)).copied HMTX ≡ F.copied HMTX
    same_table e =
        ap (λ (K : Content). K.copied HMTX) (sym (reduced-is p is F ok A))
        ∙ wholes-undivided p (frames p F.copied) HMTX e (content (divided p F) A).parts
        ∙ frames-undivided p F.copied HMTX e

    moved : p HMTX ≡ metrics HHEA → (reduced p (content F A)).copied HMTX
        ≡ (reduced by_metrics (content F A)).copied HMTX
    moved e = reduced-slot p by_metrics (content F A) HMTX e
