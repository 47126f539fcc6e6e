-- Contents that agree, and their union.
use Rattle.std.proofs.Common.{◌≡◌, ℕ, ◌<◌, ◌≤◌, Bool, true, false, cond, nat_eq, nat_lt, ◌&&◌, ◌||◌, ◌⊎◌, inl, inr}
use Rattle.std.proofs.Common.{List, [], refl, sym, ◌∙◌, ap, subst, is_some, unwrap_or, Option, Some, None, arith}
use Rattle.std.proofs.Math.Path.{fun_ext}
use Rattle.std.specs.Option.{option_or}
use Rattle.std.proofs.lemmas.Bool.{both_ways, cases_lt, false_from_ne_true, or_cases, or_left, or_right}
use Rattle.std.proofs.lemmas.Bool.Decides.{same_from_decides, Decides-like, Decides-or, nat_tests}
use Rattle.sfnt_bytes.specs.Lines.{when}
use Rattle.codes.specs.CharacterMap.{is_mapped, restricted, united}
use Rattle.codes.proofs.MapLemmas.{united-restricted, united-same, united-some, united-swapped}
use Rattle.font_glyph.specs.Reach.{IsComponentOf}
use Rattle.font_glyph.specs.Reach.Reach.{seed, part}
use Rattle.font_glyph.specs.Record.{IsRecord}
use Rattle.font_theory.specs.Bytes.{padded}
use Rattle.font_theory.specs.Content.{Content, Font, IsClosedContent, IsFont, Wanted, content, either_wanted}
use Rattle.font_theory.specs.Content.{everything, glyph_count, is_kept, is_seed, read_back}
use Rattle.font_theory.specs.Agreement.{Agree, both}
use Rattle.font_theory.proofs.ContentLemmas.{content-path, content-same, nothing_either, parts-path, seeds-less}
use Rattle.font_theory.proofs.HeldLemmas.{IsHeld, cases_option, held-some, parts-none, some-held, some-padded}
use Rattle.font_theory.proofs.HeldLemmas.{there-none}
use Rattle.font_theory.proofs.WantedLemmas.{IsKept, Reach-along, is_kept-decides, is_root-more, is_root-seed}
use Rattle.font_theory.proofs.WantedLemmas.{is_root-tells, is_root-there, is_seed-code, is_seed-more, is_seed-tells}
use Rattle.font_theory.proofs.WantedLemmas.{is_seed-zero, restricted-past}

pub Agree-sym : (K L : Content) → Agree K L → Agree L K
Agree-sym K L h = record {
  copied = λ slot. sym (h.copied slot);
  head = sym h.head;
  map = λ c x y. sym (h.map c y x);
  outline = λ g a b x y. sym (h.outline g b a y x);
  parts = λ g a b x y slot. sym (h.parts g b a y x slot);
  there = λ g a b x y. sym (h.there g b a y x);
}

pub Agree-self : (K : Content) → Agree K K
Agree-self K = record {
  copied = λ _. refl;
  head = refl;
  map = λ _ _ _. refl;
  outline = λ g a b p q. let e : Some a ≡ Some b = sym p ∙ q in cc;
  parts = λ _ _ _ _ _ _. refl;
  there = λ _ _ _ _ _. refl;
}

or_same : (o : Option (List ℕ)) → option_or o o ≡ o
or_same None = refl
or_same (Some b) = refl

pub both-self : (K : Content) → both K K ≡ K
both-self K = content-path refl refl (united-same K.map) (fun_ext (λ g. or_same (K.outline g)))
    (parts-path (λ slot g. go (is_some (K.outline g)) (K.parts slot g)))
    (fun_ext (λ g. go (is_some (K.outline g)) (K.there g)))
  where
    go : {X : Type 0} → (b : Bool) (x : X) → cond b x x ≡ x
    go true x = refl
    go false x = refl

module _ (K L : Content) (okK : IsClosedContent K) (okL : IsClosedContent L) (agree : Agree K L) where
  outline_swapped : (g : ℕ) → (both K L).outline g ≡ (both L K).outline g
  outline_swapped g = go (K.outline g) (L.outline g) refl refl
    where
      go : (o p : Option (List ℕ)) → K.outline g ≡ o → L.outline g ≡ p → option_or o p ≡ option_or p o
      go None None x y = refl
      go None (Some b) x y = refl
      go (Some a) None x y = refl
      go (Some a) (Some b) x y = ap Some (agree.outline g a b x y)

  parts_swapped : (slot g : ℕ) → (both K L).parts slot g ≡ (both L K).parts slot g
  parts_swapped slot g = go (K.outline g) (L.outline g) refl refl
    where
      go : (o p : Option (List ℕ)) → K.outline g ≡ o → L.outline g ≡ p → cond (is_some o) (K.parts slot g)
          (L.parts slot g) ≡ cond (is_some p) (L.parts slot g) (K.parts slot g)
      go None None x y = parts-none L okL g y slot ∙ sym (parts-none K okK g x slot)
      go None (Some b) x y = refl
      go (Some a) None x y = refl
      go (Some a) (Some b) x y = agree.parts g a b x y slot

  there_swapped : (g : ℕ) → (both K L).there g ≡ (both L K).there g
  there_swapped g = go (K.outline g) (L.outline g) refl refl
    where
      go : (o p : Option (List ℕ)) → K.outline g ≡ o → L.outline g ≡ p → cond (is_some o) (K.there g) (L.there g)
          ≡ cond (is_some p) (L.there g) (K.there g)
      go None None x y = there-none L okL g y ∙ sym (there-none K okK g x)
      go None (Some b) x y = refl
      go (Some a) None x y = refl
      go (Some a) (Some b) x y = agree.there g a b x y

  pub both-swapped : both K L ≡ both L K
  both-swapped = content-path (fun_ext agree.copied) agree.head (united-swapped K.map L.map agree.map)
      (fun_ext outline_swapped) (parts-path parts_swapped) (fun_ext there_swapped)

pub in_left : (K L : Content) (g : ℕ) (b : List ℕ) → K.outline g ≡ Some b → (both K L).outline g ≡ Some b
in_left K L g b e = ap (λ o. option_or o (L.outline g)) e

-- what is said of both maps is said of their union, and so of the outlines
both-map : (K L : Content) (P : ℕ → Type 0) (c : ℕ) → P (K.map c) → P (L.map c) → P ((both K L).map c)
both-map K L P c x y = elim (nat_eq (K.map c) 0) as (λ b. P (cond b (L.map c) (K.map c))) [ true ↦ y | false ↦ x ]

pub both-outline : (K L : Content) (P : List ℕ → Type 0) (g : ℕ) → P ((read_back K).outline g)
    → P ((read_back L).outline g) → P ((read_back (both K L)).outline g)
both-outline K L P g x y = go (K.outline g) x
  where
    go : (o : Option (List ℕ)) → P (unwrap_or o []) → P (unwrap_or (option_or o (L.outline g)) [])
    go None _ = y
    go (Some b) x' = x'

pub IsFont-both : (K L : Content) → IsClosedContent K → IsClosedContent L → Agree K L → IsFont (read_back (both K L))
IsFont-both K L okK okL agree =
    let n : glyph_count L.copied ≡ glyph_count K.copied = sym (ap glyph_count (fun_ext agree.copied)) in
    record {
      mapped_below = λ c. both-map K L (λ g. g < glyph_count K.copied) c (okK.font.mapped_below c)
          (rw n at okL.font.mapped_below c);
      mapped_codes = λ c past. both-map K L (λ g. g ≡ 0) c (okK.font.mapped_codes c past)
          (okL.font.mapped_codes c past);
      records = λ g. both-outline K L (IsRecord (glyph_count K.copied)) g (okK.font.records g)
          (rw n at okL.font.records g);
      slots = okK.font.slots;
      unparted = λ slot g never. elim (is_some (K.outline g)) as (λ b. cond b (K.parts slot g) (L.parts slot g) ≡ []) [
        | true ↦ okK.font.unparted slot g never
        | false ↦ okL.font.unparted slot g never
      ];
      there_below = λ g. below g (K.outline g) (okK.font.there_below g) (λ h. rw n at okL.font.there_below g h);
      head_form = okK.font.head_form;
      head = okK.font.head;
      maxp = okK.font.maxp;
      hhea = okK.font.hhea;
      hmtx = okK.font.hmtx;
      variations = okK.font.variations;
      sequences = okK.font.sequences;
    }
  where
    below : (g : ℕ) (o : Option (List ℕ)) → (K.there g ≡ true → g < glyph_count K.copied)
        → (L.there g ≡ true → g < glyph_count K.copied) → cond (is_some o) (K.there g) (L.there g) ≡ true
        → g < glyph_count K.copied
    below g None x y h = y h
    below g (Some a) x y h = x h

and_false : (b : Bool) → (b && false) ≡ false
and_false true = refl
and_false false = refl

own_code : (x y : ℕ) → cond (nat_lt 0 x) (cond (nat_eq x 0) y x) 0 ≡ x
own_code x y = grind (arith, nat_tests)

restricted-own : (m k : ℕ → ℕ) → restricted (is_mapped m) (united m k) ≡ m
restricted-own m k = fun_ext (λ c. own_code (m c) (k c))

-- what a content has of what may be wanted
abbrev pub own : Content → Wanted
own K = record { codes = is_mapped K.map; glyphs = K.there }

module _ (K L : Content) (okK : IsClosedContent K) (okL : IsClosedContent L) (agree : Agree K L) where
  read_back-left : (g : ℕ) → IsHeld K g → (read_back (both K L)).outline g ≡ (read_back K).outline g
  read_back-left g r =
      let w = held-some K okK g r in
      ap (λ o. unwrap_or o []) (in_left K L g w.0 w.1) ∙ sym (ap (λ o. unwrap_or o []) w.1)

  parts-left : (g : ℕ) → IsHeld K g → (slot : ℕ) → (both K L).parts slot g ≡ K.parts slot g
  parts-left g r slot =
      let w = held-some K okK g r in
      ap (λ o. cond (is_some o) (K.parts slot g) (L.parts slot g)) w.1

  there-left : (g : ℕ) → IsHeld K g → (both K L).there g ≡ K.there g
  there-left g r = let w = held-some K okK g r in ap (λ o. cond (is_some o) (K.there g) (L.there g)) w.1

  -- what is there in a part is there in the union
  there-both : (g : ℕ) → K.there g ≡ true → (both K L).there g ≡ true
  there-both g h = go (cases_option (K.outline g))
    where
      go : ((K.outline g ≡ None) ⊎ ((a : List ℕ) × (K.outline g ≡ Some a))) → (both K L).there g ≡ true
      go (inl none) = absurd (both_ways (K.there g) (there-none K okK g none) h)
      go (inr w) = ap (λ o. cond (is_some o) (K.there g) (L.there g)) w.1 ∙ h

  -- the union gives its first part back
  pub content-left : content (read_back (both K L)) (own K) ≡ K
  content-left =
      content-same _ (read_back K) _ everything (IsFont-both K L okK okL agree) okK.font refl refl
      (restricted-own K.map L.map)
      (λ g. go g (K.there g) (there-both g))
      (λ g r. ap padded (read_back-left g r)) parts-left there-left
      ∙ okK.closed
    where
      go : (g : ℕ) (b : Bool) → (b ≡ true → (both K L).there g ≡ true) → (b && (both K L).there g) ≡ (true && b)
      go g true h = h refl
      go g false h = refl

pub content-right : (K L : Content) → IsClosedContent K → IsClosedContent L → Agree K L
    → content (read_back (both K L)) (own L) ≡ L
content-right K L okK okL agree =
    ap (λ C. content (read_back C) (own L)) (both-swapped K L okK okL agree)
    ∙ content-left L K okL okK (Agree-sym K L agree)

IsHeld-left : (K L : Content) → IsClosedContent K → IsClosedContent L → Agree K L → (g : ℕ) → IsHeld K g
    → IsHeld (both K L) g
IsHeld-left K L okK okL agree =
    Reach-along _ _ _ _
    (is_root-more (read_back K) (read_back (both K L)) everything everything
    (is_seed-more _ _ (IsFont-both K L okK okL agree).mapped_codes (λ c. go c (cases_lt 0 (K.map c))))
    (λ g w t. (refl, there-both K L okK okL agree g t)))
    (λ g h r p. subst (λ (b : List ℕ). IsComponentOf b h) (sym (read_back-left K L okK okL agree g r)) p)
  where
    go : (c : ℕ) → ((0 < K.map c) ⊎ (K.map c ≤ 0)) → (K.map c ≡ 0) ⊎ (K.map c ≡ (both K L).map c)
    go c (inl some) = inr (sym (united-some K.map L.map c some))
    go c (inr none) = inl (omega arith)

IsHeld-right : (K L : Content) → IsClosedContent K → IsClosedContent L → Agree K L → (g : ℕ) → IsHeld L g
    → IsHeld (both K L) g
IsHeld-right K L okK okL agree g r =
    subst (λ C. IsHeld C g) (sym (both-swapped K L okK okL agree)) (IsHeld-left L K okL okK (Agree-sym K L agree) g r)

-- a seed of the union is one of a part
seeds_of-both : (K L : Content) → IsClosedContent K → IsClosedContent L → (g : ℕ) → is_seed (both K L).map g ≡ true
    → (is_seed K.map g ≡ true) ⊎ (is_seed L.map g ≡ true)
seeds_of-both K L okK okL g h =
    elim (is_seed-tells _ g h) [
      | inl e ↦ inl (subst (λ (x : ℕ). is_seed K.map x ≡ true) (sym e) (is_seed-zero K.map))
      | inr w ↦
          elim (both-map K L (λ x. (is_seed K.map x ≡ true) ⊎ (is_seed L.map x ≡ true)) w.0
          (inl (is_seed-code K.map okK.font.mapped_codes w.0))
          (inr (is_seed-code L.map okL.font.mapped_codes w.0))) [
            | inl x ↦ inl (subst (λ (y : ℕ). is_seed K.map y ≡ true) w.1 x)
            | inr x ↦ inr (subst (λ (y : ℕ). is_seed L.map y ≡ true) w.1 x)
          ]
    ]

-- what the union's codes reach is reached in one of its parts
IsHeld-split : (K L : Content) → IsClosedContent K → IsClosedContent L → Agree K L → (g : ℕ) → IsHeld (both K L) g
    → IsHeld K g ⊎ IsHeld L g
IsHeld-split K L okK okL agree g (seed h) =
    elim (is_root-tells (read_back (both K L)) everything g h) [
      | inl e ↦ elim (seeds_of-both K L okK okL g e) [
        | inl x ↦ inl (seed (is_root-seed (read_back K) everything g x))
        | inr x ↦ inr (seed (is_root-seed (read_back L) everything g x))
      ]
      | inr e ↦ go (is_some (K.outline g)) e.1
    ]
  where
    go : (b : Bool) → cond b (K.there g) (L.there g) ≡ true → IsHeld K g ⊎ IsHeld L g
    go true t = inl (seed (is_root-there (read_back K) everything g refl t))
    go false t = inr (seed (is_root-there (read_back L) everything g refl t))
IsHeld-split K L okK okL agree g (part {s = s} r p) =
    elim (IsHeld-split K L okK okL agree s r) [
      | inl h ↦ inl (part h (subst (λ (b : List ℕ). IsComponentOf b g) (read_back-left K L okK okL agree s h) p))
      | inr h ↦
          let e : (read_back (both K L)).outline s ≡ (read_back L).outline s =
          ap (λ C. (read_back C).outline s) (both-swapped K L okK okL agree)
          ∙ read_back-left L K okL okK (Agree-sym K L agree) s h in
          inr (part h (subst (λ (b : List ℕ). IsComponentOf b g) e p))
    ]

module _ (K L : Content) (okK : IsClosedContent K) (okL : IsClosedContent L) (agree : Agree K L) where
  abbrev union : Content
  union = both K L

  union-held : (g : ℕ) (b : List ℕ) → union.outline g ≡ Some b → IsHeld union g × (padded b ≡ b)
  union-held g b e = go (cases_option (K.outline g))
    where
      go : ((K.outline g ≡ None) ⊎ ((a : List ℕ) × (K.outline g ≡ Some a))) → IsHeld union g × (padded b ≡ b)
      go (inl n) =
          let l : L.outline g ≡ Some b = sym (ap (λ o. option_or o (L.outline g)) n) ∙ e in
          (IsHeld-right K L okK okL agree g (some-held L okL g b l), some-padded L okL g b l)
      go (inr w) =
          let k : Some w.0 ≡ Some b = sym (in_left K L g w.0 w.1) ∙ e in
          let q : w.0 ≡ b = cc in (
            IsHeld-left K L okK okL agree g (some-held K okK g w.0 w.1),
            subst (λ (x : List ℕ). padded x ≡ x) q (some-padded K okK g w.0 w.1),
          )

  held-union : (g : ℕ) → IsHeld union g → union.outline g ≡ None → ⊥
  held-union g r e =
      elim (IsHeld-split K L okK okL agree g r) [
        | inl h ↦ let w = held-some K okK g h in let n : Some w.0 ≡ None = sym (in_left K L g w.0 w.1) ∙ e in cc
        | inr h ↦
            let w = held-some L okL g h in
            let n : Some w.0 ≡ None = sym (in_left L K g w.0 w.1)
            ∙ sym (ap (λ C. C.outline g) (both-swapped K L okK okL agree)) ∙ e in cc
      ]

  -- the union of closed contents is closed
  pub IsClosed-both : IsClosedContent union
  IsClosed-both =
      record {
        font = IsFont-both K L okK okL agree;
        closed = content-path refl refl refl (fun_ext (λ g. go g (cases_option (union.outline g))))
            (parts-path (λ slot g. its_parts slot g (cases_option (union.outline g))))
            (fun_ext (λ g. its_there g (cases_option (union.outline g))));
      }
    where
      none_left : (o p : Option (List ℕ)) → option_or o p ≡ None → (o ≡ None) × (p ≡ None)
      none_left None p e = (refl, e)
      none_left (Some a) p e = let no : Some a ≡ None = e in cc

      its_parts : (slot g : ℕ) → ((union.outline g ≡ None) ⊎ ((b : List ℕ) × (union.outline g ≡ Some b)))
          → cond (is_kept (read_back union) everything g) (union.parts slot g) [] ≡ union.parts slot g
      its_parts slot g (inl e) =
          let none = none_left (K.outline g) (L.outline g) e in
          let nothing : union.parts slot g ≡ [] =
          ap (λ o. cond (is_some o) (K.parts slot g) (L.parts slot g)) none.0 ∙ parts-none L okL g none.1 slot in
          nothing_either (is_kept (read_back union) everything g) (union.parts slot g) nothing ∙ sym nothing
      its_parts slot g (inr w) =
          let h = union-held g w.0 w.1 in
          ap (λ x. cond x (union.parts slot g) [])
          ((is_kept-decides (read_back union) everything (IsFont-both K L okK okL agree) g).1 h.0)

      its_there : (g : ℕ) → ((union.outline g ≡ None) ⊎ ((b : List ℕ) × (union.outline g ≡ Some b)))
          → (is_kept (read_back union) everything g && union.there g) ≡ union.there g
      its_there g (inl e) =
          let none = none_left (K.outline g) (L.outline g) e in
          let nothing : union.there g ≡ false =
          ap (λ o. cond (is_some o) (K.there g) (L.there g)) none.0 ∙ there-none L okL g none.1 in
          ap (λ b. is_kept (read_back union) everything g && b) nothing
          ∙ and_false (is_kept (read_back union) everything g) ∙ sym nothing
      its_there g (inr w) =
          let h = union-held g w.0 w.1 in
          ap (λ x. x && union.there g)
          ((is_kept-decides (read_back union) everything (IsFont-both K L okK okL agree) g).1 h.0)

      go : (g : ℕ) → ((union.outline g ≡ None) ⊎ ((b : List ℕ) × (union.outline g ≡ Some b)))
          → when (is_kept (read_back union) everything g) (padded (unwrap_or (union.outline g) [])) ≡ union.outline g
      go g (inl e) =
          let f = false_from_ne_true (is_kept (read_back union) everything g)
          (λ t. held-union g ((is_kept-decides (read_back union) everything (IsFont-both K L okK okL agree) g).0 t)
          e) in
          ap (λ x. when x (padded (unwrap_or (union.outline g) []))) f ∙ sym e
      go g (inr w) =
          let h = union-held g w.0 w.1 in
          let t = (is_kept-decides (read_back union) everything (IsFont-both K L okK okL agree) g).1 h.0 in
          ap (λ x. when x (padded (unwrap_or (union.outline g) []))) t ∙ ap (λ o. Some (padded (unwrap_or o []))) w.1
          ∙ ap Some h.1 ∙ sym w.1

-- two contents of one font agree, and their union is its content for what either wants
module _ (F : Font) (A B : Wanted) (ok : IsFont F) where
  pub Agree-content : Agree (content F A) (content F B)
  Agree-content = record {
    copied = λ _. refl;
    head = refl;
    map = λ c x y. same_map (A.codes c) (B.codes c) (F.map c) x y;
    outline = λ g a b x y. same_outline (is_kept F A g) (is_kept F B g) (padded (F.outline g)) a b x y;
    parts = λ g a b x y slot. same_part (is_kept F A g) (is_kept F B g) (padded (F.outline g)) (F.parts slot g) a b x y;
    there = λ g a b x y. same_there (is_kept F A g) (is_kept F B g) (padded (F.outline g)) (F.there g) a b x y;
  }
    where
      same_map : (a b : Bool) (x : ℕ) → 0 < cond a x 0 → 0 < cond b x 0 → cond a x 0 ≡ cond b x 0
      same_map true true x h k = refl
      same_map true false x h k = absurd (omega arith)
      same_map false b x h k = absurd (omega arith)

      same_part : (a b : Bool) (o x u v : List ℕ) → when a o ≡ Some u → when b o ≡ Some v
          → cond a x [] ≡ cond b x []
      same_part true true o x u v p q = refl
      same_part true false o x u v p q = cc
      same_part false b o x u v p q = cc

      same_there : (a b : Bool) (o : List ℕ) (x : Bool) (u v : List ℕ) → when a o ≡ Some u → when b o ≡ Some v
          → (a && x) ≡ (b && x)
      same_there true true o x u v p q = refl
      same_there true false o x u v p q = cc
      same_there false b o x u v p q = cc

      same_outline : (a b : Bool) (o u v : List ℕ) → when a o ≡ Some u → when b o ≡ Some v → u ≡ v
      same_outline true true o u v x y = cc
      same_outline true false o u v x y = cc
      same_outline false b o u v x y = cc

  seeds_either : (g : ℕ) → is_seed (restricted (either_wanted A B).codes F.map) g ≡ true
      → (is_seed (restricted A.codes F.map) g ≡ true)
      ⊎ (is_seed (restricted B.codes F.map) g ≡ true)
  seeds_either g h =
      elim (is_seed-tells _ g h) [
        | inl e ↦ inl (subst (λ (x : ℕ). is_seed (restricted A.codes F.map) x ≡ true) (sym e)
            (is_seed-zero (restricted A.codes F.map)))
        | inr w ↦
            elim (go (A.codes w.0) (B.codes w.0) (F.map w.0)) [
              | inl e ↦ inl (subst (λ (x : ℕ). is_seed (restricted A.codes F.map) x ≡ true) (sym e
                  ∙ w.1) (is_seed-code _ (restricted-past F A ok) w.0))
              | inr e ↦ inr (subst (λ (x : ℕ). is_seed (restricted B.codes F.map) x ≡ true) (sym e
                  ∙ w.1) (is_seed-code _ (restricted-past F B ok) w.0))
            ]
      ]
    where
      go : (a b : Bool) (x : ℕ) → (cond (a || b) x 0 ≡ cond a x 0) ⊎ (cond (a || b) x 0 ≡ cond b x 0)
      go true b x = inl refl
      go false b x = inr refl

  kept-one : (g : ℕ) → IsKept F (either_wanted A B) g → IsKept F A g ⊎ IsKept F B g
  kept-one g (seed h) = elim (is_root-tells F (either_wanted A B) g h) [
    | inl e ↦ elim (seeds_either g e) [
      | inl x ↦ inl (seed (is_root-seed F A g x))
      | inr x ↦ inr (seed (is_root-seed F B g x))
    ]
    | inr e ↦ elim (or_cases (A.glyphs g) (B.glyphs g) e.0) [
      | inl x ↦ inl (seed (is_root-there F A g x e.1))
      | inr x ↦ inr (seed (is_root-there F B g x e.1))
    ]
  ]
  kept-one g (part {s = s} r p) = elim (kept-one s r) [ inl h ↦ inl (part h p) | inr h ↦ inr (part h p) ]

  kept-either : (g : ℕ) → IsKept F A g ⊎ IsKept F B g → IsKept F (either_wanted A B) g
  kept-either g (inl h) =
      Reach-along _ _ _ _ (is_root-more F F A (either_wanted A B)
      (seeds-less F A (either_wanted A B) ok (λ c e. or_left (A.codes c) (B.codes c) e))
      (λ x w t. (or_left (A.glyphs x) (B.glyphs x) w, t))) (λ _ _ _ p. p) g h
  kept-either g (inr h) =
      Reach-along _ _ _ _ (is_root-more F F B (either_wanted A B)
      (seeds-less F B (either_wanted A B) ok (λ c e. or_right (A.codes c) (B.codes c) e))
      (λ x w t. (or_right (A.glyphs x) (B.glyphs x) w, t))) (λ _ _ _ p. p) g h

  is_kept-either : (g : ℕ) → (is_kept F A g || is_kept F B g) ≡ is_kept F (either_wanted A B) g
  is_kept-either g =
      same_from_decides {P = IsKept F (either_wanted A B) g} _ _
      (Decides-like _ (kept-either g) (kept-one g) (Decides-or _ _ (is_kept-decides F A ok g)
      (is_kept-decides F B ok g)))
      (is_kept-decides F (either_wanted A B) ok g)

  pub both-content : both (content F A) (content F B) ≡ content F (either_wanted A B)
  both-content = content-path refl refl (united-restricted A.codes B.codes F.map) (fun_ext outline_either)
      (parts-path parts_either) (fun_ext there_either)
    where
      of_either : (a b : Bool) (o x : List ℕ) → cond (is_some (when a o)) (cond a x []) (cond b x [])
          ≡ cond (a || b) x []
      of_either true b o x = refl
      of_either false b o x = refl

      parts_either : (slot g : ℕ) → (both (content F A) (content F B)).parts slot g
          ≡ (content F (either_wanted A B)).parts slot g
      parts_either slot g =
          of_either (is_kept F A g) (is_kept F B g) (padded (F.outline g)) (F.parts slot g)
          ∙ ap (λ b. cond b (F.parts slot g) []) (is_kept-either g)

      there_of : (a b : Bool) (o : List ℕ) (x : Bool) → cond (is_some (when a o)) (a && x) (b && x) ≡ ((a || b) && x)
      there_of true b o x = refl
      there_of false b o x = refl

      there_either : (g : ℕ) → (both (content F A) (content F B)).there g ≡ (content F (either_wanted A B)).there g
      there_either g =
          there_of (is_kept F A g) (is_kept F B g) (padded (F.outline g)) (F.there g)
          ∙ ap (λ b. b && F.there g) (is_kept-either g)

      go : (a b : Bool) (o : List ℕ) → option_or (when a o) (when b o) ≡ when (a || b) o
      go true b o = refl
      go false true o = refl
      go false false o = refl

      outline_either : (g : ℕ) → (both (content F A) (content F B)).outline g
          ≡ (content F (either_wanted A B)).outline g
      outline_either g = go (is_kept F A g) (is_kept F B g) (padded (F.outline g))
          ∙ ap (λ x. when x (padded (F.outline g))) (is_kept-either g)
