-- What a font keeps for wanted codes.
use Rattle.std.proofs.Common.{◌≡◌, ℕ, ◌<◌, ◌≤◌, Bool, true, false, cond, nat_eq, ◌&&◌, ◌||◌, ◌⊎◌, inl, inr, List}
use Rattle.std.proofs.Common.{Option, refl, sym}
use Rattle.std.proofs.Common.{◌∙◌, ap, subst, arith}
use Rattle.std.proofs.Math.Path.{fun_ext}
use Rattle.std.specs.Bool.{Decides}
use Rattle.std.proofs.lemmas.Bool.{and_from, and_parts, cases_lt, or_cases, or_left, or_right, eqb-true, eq-eqb}
use Rattle.std.proofs.lemmas.List.Elements.{All-from_recursion, All-contains}
use Rattle.codes.specs.CharacterMap.{restricted}
use Rattle.font_glyph.specs.Reach.{IsComponentOf, Reach}
use Rattle.font_glyph.specs.Reach.Reach.{seed, part}
use Rattle.font_glyph.specs.Record.{IsRecord, glyphs_of}
use Rattle.font_glyph.proofs.ClosureLemmas.{glyphs_small}
use Rattle.font_glyph.proofs.ReachLemmas.{Reach-below, reached_decides}
use Rattle.font_glyph.proofs.FoundLemmas.{any_decides}
use Rattle.font_glyph.proofs.RecordLemmas.{IsRecord-list}
use Rattle.font_theory.specs.Content.{CODES, Font, IsFont, Wanted, glyph_count, is_kept, is_root, is_seed, of_codes}

-- a seed is glyph 0 or the glyph of some code
abbrev pub IsSeed : (ℕ → ℕ) → ℕ → Type 0
IsSeed m g = (g ≡ 0) ⊎ ((c : ℕ) × (m c ≡ g))

pub is_seed-tells : (m : ℕ → ℕ) (g : ℕ) → is_seed m g ≡ true → IsSeed m g
unfolding is_seed
is_seed-tells m g h =
    elim (or_cases _ _ h) [
      | inl e ↦ inl (eqb-true _ _ e)
      | inr e ↦
          let w : (c : ℕ) × (c < CODES) × (nat_eq (m c) g ≡ true) = (any_decides (λ c. nat_eq (m c) g) CODES).0 e in
          inr (w.0, eqb-true _ _ w.2)
    ]

pub is_seed-zero : (m : ℕ → ℕ) → is_seed m 0 ≡ true
unfolding is_seed
is_seed-zero m = refl

pub is_seed-code : (m : ℕ → ℕ) → ((c : ℕ) → CODES ≤ c → m c ≡ 0) → (c : ℕ) → is_seed m (m c) ≡ true
unfolding is_seed
is_seed-code m past c =
    elim (cases_lt c CODES) [
      | inl low ↦ or_right (nat_eq (m c) 0) _ ((any_decides (λ x. nat_eq (m x) (m c)) CODES).1 (
        c,
        low,
        eq-eqb _ _ refl,
      ))
      | inr high ↦ or_left _ _ (eq-eqb _ _ (past c high))
    ]

-- a map that has no other glyphs than another has no other seeds
pub is_seed-more : (m k : ℕ → ℕ) → ((c : ℕ) → CODES ≤ c → k c ≡ 0) → ((c : ℕ) → (m c ≡ 0) ⊎ (m c ≡ k c)) → (g : ℕ)
    → is_seed m g ≡ true → is_seed k g ≡ true
is_seed-more m k past less g h =
    elim (is_seed-tells m g h) [
      | inl e ↦ subst (λ (x : ℕ). is_seed k x ≡ true) (sym e) (is_seed-zero k)
      | inr w ↦ elim (less w.0) [
        | inl e ↦ subst (λ (x : ℕ). is_seed k x ≡ true) (sym e ∙ w.1) (is_seed-zero k)
        | inr e ↦ subst (λ (x : ℕ). is_seed k x ≡ true) (sym e ∙ w.1) (is_seed-code k past w.0)
      ]
    ]

-- the seeds of a map to glyphs below the count are below it
pub is_seed-below : (copied : ℕ → Option (List ℕ)) (m : ℕ → ℕ) → ((c : ℕ) → m c < glyph_count copied) → (g : ℕ)
    → is_seed m g ≡ true → g < glyph_count copied
is_seed-below copied m below g h =
    elim (is_seed-tells m g h) [
      | inl e ↦ let b = below 0 in omega arith
      | inr w ↦ subst (λ (x : ℕ). x < glyph_count copied) w.1 (below w.0)
    ]

-- more seeds, and records that name no less where something is reached, reach no less
pub Reach-along : (p q : ℕ → List ℕ) (s t : ℕ → Bool) → ((g : ℕ) → s g ≡ true → t g ≡ true)
    → ((g h : ℕ) → Reach p s g → IsComponentOf (p g) h → IsComponentOf (q g) h) → (g : ℕ) → Reach p s g → Reach q t g
Reach-along p q s t more names g (seed h) = seed (more g h)
Reach-along p q s t more names g (part {s = x} r c) = part (Reach-along p q s t more names x r) (names x g r c)

-- records that name no more where something is reached reach no more
pub Reach-back : (p q : ℕ → List ℕ) (s : ℕ → Bool) → ((g h : ℕ) → Reach p s g → IsComponentOf (q g) h
    → IsComponentOf (p g) h) → (g : ℕ) → Reach q s g → Reach p s g
Reach-back p q s names g (seed h) = seed h
Reach-back p q s names g (part {s = x} r c) = let back = Reach-back p q s names x r in part back (names x g back c)

pub component-below : (count : ℕ) (b : List ℕ) (g : ℕ) → IsRecord count b → IsComponentOf b g → g < count
component-below count b g ok h =
    All-contains (λ x. x < count) (glyphs_of h.list) g (All-from_recursion (λ x. x < count) (glyphs_of h.list)
    (glyphs_small count h.list (IsRecord-list count b h.list ok h.is))) h.among

-- a map on a set, code by code
pub restricted-cases : (wanted : ℕ → Bool) (m : ℕ → ℕ) (P : ℕ → Type 0) (c : ℕ) → P (m c) → P 0
    → P (restricted wanted m c)
restricted-cases wanted m P c x y = elim (wanted c) as (λ b. P (cond b (m c) 0)) [ true ↦ x | false ↦ y ]

-- a root is a seed, or a wanted glyph that is there
pub is_root-tells : (F : Font) (W : Wanted) (g : ℕ) → is_root F W g ≡ true
    → (is_seed (restricted W.codes F.map) g ≡ true) ⊎ ((W.glyphs g ≡ true) × (F.there g ≡ true))
unfolding is_root
is_root-tells F W g h = elim (or_cases _ _ h) [ inl e ↦ inl e | inr e ↦ inr (and_parts _ _ e) ]

pub is_root-decides : (F : Font) (W : Wanted) (g : ℕ) → Decides (is_root F W g)
    ((is_seed (restricted W.codes F.map) g ≡ true) ⊎ ((W.glyphs g ≡ true) × (F.there g ≡ true)))
unfolding is_root
is_root-decides F W g = (
  is_root-tells F W g,
  (λ h. elim h [
    | inl e ↦ or_left _ _ e
    | inr e ↦ or_right (is_seed (restricted W.codes F.map) g) _ (and_from _ _ e.0
        e.1)
  ]),
)

pub is_root-seed : (F : Font) (W : Wanted) (g : ℕ) → is_seed (restricted W.codes F.map) g ≡ true → is_root F W g ≡ true
unfolding is_root
is_root-seed F W g h = or_left _ _ h

pub is_root-there : (F : Font) (W : Wanted) (g : ℕ) → W.glyphs g ≡ true → F.there g ≡ true → is_root F W g ≡ true
unfolding is_root
is_root-there F W g w t = or_right (is_seed (restricted W.codes F.map) g) _ (and_from _ _ w t)

-- where there are no fewer seeds and no fewer wanted glyphs, there are no fewer roots
pub is_root-more : (F G : Font) (V W : Wanted)
    → ((g : ℕ) → is_seed (restricted V.codes F.map) g ≡ true → is_seed (restricted W.codes G.map) g ≡ true)
    → ((g : ℕ) → V.glyphs g ≡ true → F.there g ≡ true → (W.glyphs g ≡ true) × (G.there g ≡ true)) → (g : ℕ)
    → is_root F V g ≡ true → is_root G W g ≡ true
is_root-more F G V W seeds glyphs g h = elim (is_root-tells F V g h) [
  | inl e ↦ is_root-seed G W g (seeds g e)
  | inr e ↦ let w = glyphs g e.0 e.1 in is_root-there G W g w.0 w.1
]

-- the same seeds and the same wanted glyphs are the same roots
pub is_root-same : (F G : Font) (V W : Wanted) → restricted V.codes F.map ≡ restricted W.codes G.map
    → ((g : ℕ) → (V.glyphs g && F.there g) ≡ (W.glyphs g && G.there g)) → is_root F V ≡ is_root G W
unfolding is_root
is_root-same F G V W map glyphs = λ i. λ g. is_seed (map i) g || glyphs g i

-- where no glyph is there, the roots are the seeds
pub is_root-none : (F : Font) (W : Wanted) → ((g : ℕ) → F.there g ≡ false)
    → is_root F W ≡ is_seed (restricted W.codes F.map)
unfolding is_root
is_root-none F W none = fun_ext (λ g.
    ap (λ t. is_seed (restricted W.codes F.map) g || (W.glyphs g && t)) (none g)
    ∙ go (is_seed (restricted W.codes F.map) g) (W.glyphs g))
  where
    go : (a b : Bool) → (a || (b && false)) ≡ a
    go true b = refl
    go false true = refl
    go false false = refl

-- where codes alone are wanted, too
pub is_root-codes : (F : Font) (codes : ℕ → Bool) → is_root F (of_codes codes) ≡ is_seed (restricted codes F.map)
unfolding is_root
is_root-codes F codes = fun_ext (λ g. go (is_seed (restricted codes F.map) g))
  where
    go : (a : Bool) → (a || false) ≡ a
    go true = refl
    go false = refl

-- what components lead to from the roots
abbrev pub IsKept : Font → Wanted → ℕ → Type 0
IsKept F wanted g = Reach F.outline (is_root F wanted) g

module _ (F : Font) (wanted : Wanted) (ok : IsFont F) where
  pub restricted-below : (c : ℕ) → restricted wanted.codes F.map c < glyph_count F.copied
  restricted-below c = let h = ok.mapped_below c in
      restricted-cases wanted.codes F.map (λ g. g < glyph_count F.copied) c h (omega arith)

  pub restricted-past : (c : ℕ) → CODES ≤ c → restricted wanted.codes F.map c ≡ 0
  restricted-past c past = restricted-cases wanted.codes F.map (λ g. g ≡ 0) c (ok.mapped_codes c past) refl

  pub seeds-below : (g : ℕ) → is_seed (restricted wanted.codes F.map) g ≡ true → g < glyph_count F.copied
  seeds-below = is_seed-below F.copied (restricted wanted.codes F.map) restricted-below

  components_below : (s g : ℕ) → s < glyph_count F.copied → IsComponentOf (F.outline s) g → g < glyph_count F.copied
  components_below s g low c = component-below (glyph_count F.copied) (F.outline s) g (ok.records s) c

  pub roots-below : (g : ℕ) → is_root F wanted g ≡ true → g < glyph_count F.copied
  roots-below g h = elim (is_root-tells F wanted g h) [ inl e ↦ seeds-below g e | inr e ↦ ok.there_below g e.1 ]

  -- a seed is a root
  pub seeds-roots : (g : ℕ) → is_seed (restricted wanted.codes F.map) g ≡ true → is_root F wanted g ≡ true
  seeds-roots = is_root-seed F wanted

  pub is_kept-decides : (g : ℕ) → Decides (is_kept F wanted g) (IsKept F wanted g)
  unfolding is_kept
  is_kept-decides = reached_decides F.outline (is_root F wanted) (glyph_count F.copied) roots-below components_below

  pub IsKept-below : (g : ℕ) → IsKept F wanted g → g < glyph_count F.copied
  IsKept-below = Reach-below F.outline (is_root F wanted) (glyph_count F.copied) roots-below components_below

  -- a wanted glyph that is there is kept
  pub kept-there : (g : ℕ) → wanted.glyphs g ≡ true → F.there g ≡ true → is_kept F wanted g ≡ true
  kept-there g w t = (is_kept-decides g).1 (seed (is_root-there F wanted g w t))
