-- The content of a font for what is wanted.
use Rattle.std.proofs.Common.{◌≡◌, ◌≢◌, ℕ, Bool, true, false, cond, nat_eq, ◌&&◌, ◌⊎◌, inl, inr, List, [], refl, sym}
use Rattle.std.proofs.Common.{◌∙◌, ap, subst, unwrap_or, Some}
use Rattle.std.proofs.Math.Bool.{and_comm}
use Rattle.std.proofs.Math.Path.{fun_ext}
use Rattle.std.proofs.lemmas.Bool.{and_from, and_parts, both_ways, cases_eq, eqb-true}
use Rattle.std.proofs.lemmas.Bool.Decides.{same_from_decides, Decides-like}
use Rattle.sfnt_bytes.specs.Lines.{when}
use Rattle.codes.specs.CharacterMap.{restricted}
use Rattle.codes.proofs.MapLemmas.{restricted-restricted, same_cond}
use Rattle.font_glyph.specs.Reach.{IsComponentOf, Reach}
use Rattle.font_glyph.specs.Reach.Reach.{seed, part}
use Rattle.font_glyph.specs.Record.{IsRecord}
use Rattle.font_theory.specs.Bytes.{padded}
use Rattle.font_theory.specs.Content.{Content, Font, IsClosedContent, IsFont, Wanted, content, everything, glyph_count}
use Rattle.font_theory.specs.Content.{is_kept, is_root, is_seed, of_codes, read_back, wanted_within}
use Rattle.font_theory.proofs.WantedLemmas.{IsKept, Reach-along, Reach-back, is_kept-decides, is_root-more}
use Rattle.font_theory.proofs.WantedLemmas.{is_root-same, is_root-seed, is_root-tells, is_root-there, is_seed-code}
use Rattle.font_theory.proofs.WantedLemmas.{is_seed-more, kept-there, restricted-below, restricted-past, seeds-roots}
use Rattle.font_theory.proofs.PaddedLemmas.{IsRecord-nil, IsRecord-padded, component-alike, padded-padded}

-- contents of equal parts are equal
pub content-path : {K L : Content} → K.copied ≡ L.copied → K.head ≡ L.head → K.map ≡ L.map → K.outline ≡ L.outline
    → K.parts ≡ L.parts → K.there ≡ L.there → K ≡ L
content-path c h m o p t =
    λ i. record { copied = c i; head = h i; map = m i; outline = o i; parts = p i; there = t i }

-- parts are equal where they are slot by slot and glyph by glyph
pub parts-path : {p q : ℕ → ℕ → List ℕ} → ((slot g : ℕ) → p slot g ≡ q slot g) → p ≡ q
parts-path h = λ i slot g. h slot g i

pub nothing_either : (b : Bool) (x : List ℕ) → x ≡ [] → cond b x [] ≡ []
nothing_either true x e = e
nothing_either false x e = refl

-- what is read back of a kept outline is the outline padded
pub read_back-kept : (F : Font) (A : Wanted) (g : ℕ) → is_kept F A g ≡ true → (read_back (content F A)).outline g
    ≡ padded (F.outline g)
read_back-kept F A g e = ap (λ b. unwrap_or (when b (padded (F.outline g))) []) e

-- what is read back of a cut of a font is a font
pub IsFont-read_back : (F : Font) (A : Wanted) → IsFont F → IsFont (read_back (content F A))
IsFont-read_back F A ok = record {
  mapped_below = restricted-below F A ok;
  mapped_codes = restricted-past F A ok;
  records = λ g. elim (is_kept F A g) as (λ b. IsRecord (glyph_count F.copied)
      (unwrap_or (when b (padded (F.outline g))) [])) [
        | true ↦ IsRecord-padded (glyph_count F.copied) (F.outline g) (ok.records g)
        | false ↦ IsRecord-nil (glyph_count F.copied)
      ];
  slots = ok.slots;
  unparted = λ slot g never. nothing_either (is_kept F A g) (F.parts slot g) (ok.unparted slot g never);
  there_below = λ g h. ok.there_below g (and_parts (is_kept F A g) (F.there g) h).1;
  head_form = ok.head_form;
  head = ok.head;
  maxp = ok.maxp;
  hhea = ok.hhea;
  hmtx = ok.hmtx;
  variations = ok.variations;
  sequences = ok.sequences;
}

-- a content depends on the tables, on the map on the wanted codes, on the wanted glyphs that are there, and on the
-- padded outlines of what is kept
module _ (F G : Font) (A B : Wanted) (okF : IsFont F) (okG : IsFont G)
    (copied : F.copied ≡ G.copied) (head : F.head ≡ G.head) (map : restricted A.codes F.map ≡ restricted B.codes G.map)
    (glyphs : (g : ℕ) → (A.glyphs g && F.there g) ≡ (B.glyphs g && G.there g))
    (same : (g : ℕ) → IsKept G B g → padded (F.outline g) ≡ padded (G.outline g))
    (parts : (g : ℕ) → IsKept G B g → (slot : ℕ) → F.parts slot g ≡ G.parts slot g)
    (there : (g : ℕ) → IsKept G B g → F.there g ≡ G.there g) where
  names_to : (g h : ℕ) → IsKept G B g → IsComponentOf (G.outline g) h → IsComponentOf (F.outline g) h
  names_to g h r = component-alike (glyph_count F.copied) (G.outline g) (F.outline g) h (okF.records g) (sym (same g r))

  names_from : (g h : ℕ) → IsKept G B g → IsComponentOf (F.outline g) h → IsComponentOf (G.outline g) h
  names_from g h r = component-alike (glyph_count G.copied) (F.outline g) (G.outline g) h (okG.records g) (same g r)

  kept_same : (g : ℕ) → is_kept F A g ≡ is_kept G B g
  kept_same g =
      let P : (ℕ → Bool) → Type 0 = λ s. Reach F.outline s g in
      let roots = is_root-same F G A B map glyphs in
      same_from_decides {P = IsKept G B g} _ _
      (Decides-like _ (λ r. Reach-back _ _ _ names_from g (subst P roots r))
      (λ r. subst P (sym roots) (Reach-along _ _ _ _ (λ _ h. h) names_to g r)) (is_kept-decides F A okF g))
      (is_kept-decides G B okG g)

  outline_same : (g : ℕ) → (content F A).outline g ≡ (content G B).outline g
  outline_same g =
      ap (λ b. when b (padded (F.outline g))) (kept_same g)
      ∙ go (is_kept G B g) (λ e. same g ((is_kept-decides G B okG g).0 e))
    where
      go : (b : Bool) → (b ≡ true → padded (F.outline g) ≡ padded (G.outline g)) → when b (padded (F.outline g))
          ≡ when b (padded (G.outline g))
      go true h = ap Some (h refl)
      go false h = refl

  parts_same : (slot g : ℕ) → (content F A).parts slot g ≡ (content G B).parts slot g
  parts_same slot g =
      ap (λ b. cond b (F.parts slot g) []) (kept_same g)
      ∙ go (is_kept G B g) (λ e. parts g ((is_kept-decides G B okG g).0 e) slot)
    where
      go : (b : Bool) → (b ≡ true → F.parts slot g ≡ G.parts slot g) → cond b (F.parts slot g) []
          ≡ cond b (G.parts slot g) []
      go true h = h refl
      go false h = refl

  there_same : (g : ℕ) → (content F A).there g ≡ (content G B).there g
  there_same g =
      ap (λ b. b && F.there g) (kept_same g) ∙ go (is_kept G B g) (λ e. there g ((is_kept-decides G B okG g).0 e))
    where
      go : (b : Bool) → (b ≡ true → F.there g ≡ G.there g) → (b && F.there g) ≡ (b && G.there g)
      go true h = h refl
      go false h = refl

  pub content-same : content F A ≡ content G B
  content-same = content-path copied head map (fun_ext outline_same) (parts-path parts_same) (fun_ext there_same)

-- contents of one font are the same where they keep the same
pub content-kept : (F : Font) (A B : Wanted) → restricted A.codes F.map ≡ restricted B.codes F.map
    → is_kept F A ≡ is_kept F B → content F A ≡ content F B
content-kept F A B map kept = λ i. record {
  copied = F.copied;
  head = F.head;
  map = map i;
  outline = λ g. when (kept i g) (padded (F.outline g));
  parts = λ slot g. cond (kept i g) (F.parts slot g) [];
  there = λ g. kept i g && F.there g;
}

-- fewer codes have no other seeds
pub seeds-less : (F : Font) (A B : Wanted) → IsFont F → ((c : ℕ) → A.codes c ≡ true → B.codes c ≡ true) → (g : ℕ)
    → is_seed (restricted A.codes F.map) g ≡ true → is_seed (restricted B.codes F.map) g ≡ true
seeds-less F A B ok less =
    is_seed-more _ _ (restricted-past F B ok) (λ c. go (A.codes c) (B.codes c) (F.map c) (less c))
  where
    go : (a b : Bool) (x : ℕ) → (a ≡ true → b ≡ true) → (cond a x 0 ≡ 0) ⊎ (cond a x 0 ≡ cond b x 0)
    go true true x h = inr refl
    go true false x h = let e : false ≡ true = h refl in cc
    go false b x h = inl refl

-- what is wanted within a cut keeps no more than the cut
module _ (F : Font) (A B : Wanted) (ok : IsFont F) where
  pub IsKept-less : (g : ℕ) → IsKept F (wanted_within F A B) g → IsKept F A g
  IsKept-less g (seed h) = elim (is_root-tells F (wanted_within F A B) g h) [
    | inl e ↦ seed (is_root-seed F A g (seeds-less F (wanted_within F A B) A ok
        (λ c x. (and_parts (A.codes c) (B.codes c) x).0) g e))
    | inr e ↦ (is_kept-decides F A ok g).0 (and_parts (is_kept F A g) (B.glyphs g) e.0).0
  ]
  IsKept-less g (part {s = s} r c) = part (IsKept-less s r) c

pub read_back-reached : (F : Font) (A : Wanted) → IsFont F → (g : ℕ) → IsKept F A g
    → (read_back (content F A)).outline g ≡ padded (F.outline g)
read_back-reached F A ok g r = read_back-kept F A g ((is_kept-decides F A ok g).1 r)

-- a cut of a cut is a cut for what is wanted within it
pub content-read_back : (F : Font) (A B : Wanted) → IsFont F → content (read_back (content F A)) B
    ≡ content F (wanted_within F A B)
content-read_back F A B ok =
    content-same _ _ _ _ (IsFont-read_back F A ok) ok refl refl
    (restricted-restricted B.codes A.codes F.map
    ∙ ap (λ (w : ℕ → Bool). restricted w F.map) (fun_ext (λ c. and_comm (B.codes c) (A.codes c))))
    (λ g. turned (B.glyphs g) (is_kept F A g) (F.there g))
    (λ g r. ap padded (read_back-reached F A ok g (IsKept-less F A B ok g r)) ∙ padded-padded (F.outline g))
    (λ g r slot. ap (λ b. cond b (F.parts slot g) []) ((is_kept-decides F A ok g).1 (IsKept-less F A B ok g r)))
    (λ g r. ap (λ b. b && F.there g) ((is_kept-decides F A ok g).1 (IsKept-less F A B ok g r)))
  where
    turned : (a b c : Bool) → (a && (b && c)) ≡ ((b && a) && c)
    turned true true c = refl
    turned true false c = refl
    turned false true c = refl
    turned false false c = refl

-- that is the cut for a third set, where that has the same codes, and keeps as much
pub content-within : (F : Font) (A B C : Wanted) → IsFont F → ((c : ℕ) → (A.codes c && B.codes c) ≡ C.codes c)
    → ((g : ℕ) → IsKept F A g → B.glyphs g ≡ true → F.there g ≡ true → IsKept F C g)
    → ((g : ℕ) → C.glyphs g ≡ true → F.there g ≡ true → (is_kept F A g && B.glyphs g) ≡ true)
    → content F (wanted_within F A B) ≡ content F C
content-within F A B C ok codes to from =
    content-kept F (wanted_within F A B) C (ap (λ (w : ℕ → Bool). restricted w F.map) (fun_ext codes))
    (fun_ext (λ g. same_from_decides {P = IsKept F C g} _ _
    (Decides-like _ (forth g) (back g) (is_kept-decides F (wanted_within F A B) ok g)) (is_kept-decides F C ok g)))
  where
    forth : (g : ℕ) → IsKept F (wanted_within F A B) g → IsKept F C g
    forth g (seed h) = elim (is_root-tells F (wanted_within F A B) g h) [
      | inl e ↦ seed (is_root-seed F C g (subst (λ (w : ℕ → Bool). is_seed (restricted w F.map) g
          ≡ true) (fun_ext codes)
          e))
      | inr e ↦
          let w = and_parts (is_kept F A g) (B.glyphs g) e.0 in to g ((is_kept-decides F A ok g).0 w.0) w.1 e.1
    ]
    forth g (part {s = s} r c) = part (forth s r) c

    back : (g : ℕ) → IsKept F C g → IsKept F (wanted_within F A B) g
    back = Reach-along _ _ _ _ (is_root-more F F C (wanted_within F A B)
        (λ g e. subst (λ (w : ℕ → Bool). is_seed (restricted w F.map) g ≡ true) (sym (fun_ext codes)) e)
        (λ g w t. (from g w t, t))) (λ _ _ _ p. p)

-- all of a cut is the cut
pub content-all : (F : Font) (A : Wanted) → IsFont F → content F (wanted_within F A everything) ≡ content F A
content-all F A ok = content-within F A everything A ok (λ c. and_comm (A.codes c) true) (λ g r _ _. r)
    (λ g w t. and_from (is_kept F A g) true (kept-there F A ok g w t) refl)

-- the cut of a cut for less is the cut for that
pub content-less : (F : Font) (A B : Wanted) → IsFont F → ((c : ℕ) → B.codes c ≡ true → A.codes c ≡ true)
    → ((g : ℕ) → B.glyphs g ≡ true → A.glyphs g ≡ true) → content (read_back (content F A)) B ≡ content F B
content-less F A B ok codes glyphs =
    content-read_back F A B ok
    ∙ content-within F A B B ok (λ c. go (A.codes c) (B.codes c) (codes c))
    (λ g _ w t. seed (is_root-there F B g w t))
    (λ g w t. and_from (is_kept F A g) (B.glyphs g) (kept-there F A ok g (glyphs g w) t) w)
  where
    go : (a b : Bool) → (b ≡ true → a ≡ true) → (a && b) ≡ b
    go true b h = refl
    go false true h = h refl
    go false false h = refl

-- each content of a font is closed
pub IsClosed-content : (F : Font) (A : Wanted) → IsFont F → IsClosedContent (content F A)
IsClosed-content F A ok =
    record { font = IsFont-read_back F A ok; closed = content-read_back F A everything ok ∙ content-all F A ok }

-- only the wanted codes that are mapped count, and the wanted glyphs that are there
pub content-mapped : (F : Font) (A B : Wanted) → IsFont F → ((c : ℕ) → F.map c ≢ 0 → A.codes c ≡ B.codes c)
    → ((g : ℕ) → F.there g ≡ true → A.glyphs g ≡ B.glyphs g) → content F A ≡ content F B
content-mapped F A B ok h k = content-same F F A B ok ok refl refl (fun_ext (λ c. go c (cases_eq (F.map c) 0)))
    (λ g. same (A.glyphs g) (B.glyphs g) (F.there g) (k g)) (λ _ _. refl) (λ _ _ _. refl) (λ _ _. refl)
  where
    go : (c : ℕ) → ((F.map c ≡ 0) ⊎ (F.map c ≡ 0 → ⊥)) → restricted A.codes F.map c ≡ restricted B.codes F.map c
    go c (inl e) = rw e (same_cond (A.codes c) 0 ∙ sym (same_cond (B.codes c) 0))
    go c (inr n) = ap (λ b. cond b (F.map c) 0) (h c n)

    same : (a b t : Bool) → (t ≡ true → a ≡ b) → (a && t) ≡ (b && t)
    same a b true e = ap (λ x. x && true) (e refl)
    same a b false e = and_comm a false ∙ sym (and_comm b false)

-- where no glyph is there, codes alone count
pub content-none : (F : Font) (A : Wanted) → IsFont F → ((g : ℕ) → F.there g ≡ false)
    → content F A ≡ content F (of_codes A.codes)
content-none F A ok none = content-mapped F A (of_codes A.codes) ok (λ _ _. refl)
    (λ g t. absurd (both_ways (F.there g) (none g) t))

-- a wanted code keeps its glyph
pub wanted-map : (F : Font) (A : Wanted) (c : ℕ) → A.codes c ≡ true → (content F A).map c ≡ F.map c
wanted-map F A c h = ap (λ b. cond b (F.map c) 0) h

pub seed-wanted : (F : Font) (A : Wanted) → IsFont F → (c : ℕ) → A.codes c ≡ true → (g : ℕ)
    → nat_eq (F.map c) g ≡ true → is_seed (restricted A.codes F.map) g ≡ true
seed-wanted F A ok c h g e = subst (λ (y : ℕ). is_seed (restricted A.codes F.map) y ≡ true) (wanted-map F A c h
    ∙ eqb-true (F.map c) g e) (is_seed-code _ (restricted-past F A ok) c)

-- and so what components lead to from there
pub IsKept-wanted : (F : Font) (A : Wanted) → IsFont F → (c : ℕ) → A.codes c ≡ true → (g : ℕ)
    → Reach F.outline (nat_eq (F.map c)) g → IsKept F A g
IsKept-wanted F A ok c h =
    Reach-along _ _ _ _ (λ x e. seeds-roots F A ok x (seed-wanted F A ok c h x e)) (λ _ _ _ p. p)

-- and from a wanted glyph that is there
pub IsKept-number : (F : Font) (A : Wanted) → (r : ℕ) → A.glyphs r ≡ true → F.there r ≡ true → (g : ℕ)
    → Reach F.outline (nat_eq r) g → IsKept F A g
IsKept-number F A r w t =
    Reach-along _ _ _ _ (λ x e. subst (λ (y : ℕ). is_root F A y ≡ true) (eqb-true r x e) (is_root-there F A r w t))
    (λ _ _ _ p. p)

pub IsKept-seeds : (F : Font) (A : Wanted) → IsFont F → (g : ℕ)
    → Reach F.outline (is_seed (restricted A.codes F.map)) g → IsKept F A g
IsKept-seeds F A ok = Reach-along _ _ _ _ (seeds-roots F A ok) (λ _ _ _ p. p)
