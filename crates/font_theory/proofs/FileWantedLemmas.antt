-- What a file keeps for wanted codes, in the words of the file.
use Rattle.std.proofs.Common.{◌≡◌, ℕ, ◌<◌, Bool, true, cond, nat_eq, List, [], None, refl, sym, ◌∙◌, ap, subst}
use Rattle.std.specs.Bool.{Decides}
use Rattle.std.proofs.lemmas.Bool.{eqb-true, lt-ltb}
use Rattle.std.proofs.lemmas.Bool.Decides.{Decides-like}
use Rattle.codes.specs.CharacterMap.{restricted}
use Rattle.font_glyph.specs.Reach.{IsComponentOf, Reach}
use Rattle.font_glyph.specs.Reach.Reach.{seed, part}
use Rattle.font_tables.specs.Fields.{glyph_count_of}
use Rattle.font_tables.specs.Outlines.{outline_of}
use Rattle.font_file.specs.Font.{font_fault, map_of}
use Rattle.font_file.proofs.FontLemmas.{is_record-accepted}
use Rattle.font_theory.specs.Bytes.{padded}
use Rattle.font_theory.specs.Content.{Wanted, content, glyph_count, is_kept, is_root, is_seed, plain_font, read_back}
use Rattle.font_theory.proofs.ContentLemmas.{IsKept-wanted, read_back-reached, wanted-map}
use Rattle.font_theory.proofs.FontLemmas.{IsFont-accepted, glyph_count-file}
use Rattle.font_theory.proofs.WantedLemmas.{component-below, is_kept-decides, is_root-none, seeds-below}

-- below its count a glyph of a font has the outline of the file
pub outline-file : (file : List ℕ) (g : ℕ) → g < glyph_count_of file → (plain_font file).outline g ≡ outline_of file g
outline-file file g low = ap (λ b. cond b (outline_of file g) []) (lt-ltb g (glyph_count_of file) low)

module _ (file : List ℕ) (accepted : font_fault file ≡ None) (seeds : ℕ → Bool) (below : (g : ℕ) → seeds g ≡ true
    → g < glyph_count_of file) where
  component-accepted : (s g : ℕ) → s < glyph_count_of file → IsComponentOf (outline_of file s) g
      → g < glyph_count_of file
  component-accepted s g low =
      component-below (glyph_count_of file) (outline_of file s) g (is_record-accepted file s accepted low)

  pub Reach-font : (g : ℕ) → Reach (outline_of file) seeds g → Reach (plain_font file).outline seeds g
      × (g < glyph_count_of file)
  Reach-font g (seed h) = (seed h, below g h)
  Reach-font g (part {s = s} r c) =
      let w = Reach-font s r in (
        part w.0 (subst (λ (b : List ℕ). IsComponentOf b g) (sym (outline-file file s w.1)) c),
        component-accepted s g w.1 c,
      )

  pub Reach-file : (g : ℕ) → Reach (plain_font file).outline seeds g → Reach (outline_of file) seeds g
      × (g < glyph_count_of file)
  Reach-file g (seed h) = (seed h, below g h)
  Reach-file g (part {s = s} r c) =
      let w = Reach-file s r in
      let c' = subst (λ (b : List ℕ). IsComponentOf b g) (outline-file file s w.1) c in
      (part w.0 c', component-accepted s g w.1 c')

-- a plain reader has no glyph wanted by number
pub roots-font : (file : List ℕ) (wanted : Wanted)
    → is_root (plain_font file) wanted ≡ is_seed (restricted wanted.codes (map_of file))
roots-font file wanted = is_root-none (plain_font file) wanted (λ g. refl)

-- what is kept of an accepted file is what its outlines lead to
pub is_kept-file : (file : List ℕ) (wanted : Wanted) → font_fault file ≡ None → (g : ℕ)
    → Decides (is_kept (plain_font file) wanted g) (Reach (outline_of file) (is_seed (restricted wanted.codes (map_of
    file))) g)
is_kept-file file wanted accepted g =
    let ok = IsFont-accepted file accepted in
    let below : (h : ℕ) → is_seed (restricted wanted.codes (map_of file)) h ≡ true → h < glyph_count_of file =
    λ h s. subst (λ (n : ℕ). h < n) (glyph_count-file file) (seeds-below (plain_font file) wanted ok h s) in
    let P : (ℕ → Bool) → Type 0 = λ s. Reach (plain_font file).outline s g in
    let same = roots-font file wanted in
    Decides-like _ (λ r. (Reach-file file accepted _ below g (subst P same r)).0)
    (λ r. subst P (sym same) (Reach-font file accepted _ below g r).0) (is_kept-decides (plain_font file) wanted ok g)

-- a file of which a content of an accepted one is read back
module _ (file other : List ℕ) (wanted : Wanted) (accepted : font_fault file ≡ None) (same : plain_font other
    ≡ read_back (content (plain_font file) wanted)) where
  pub glyph_count_of-same : glyph_count_of other ≡ glyph_count_of file
  glyph_count_of-same = sym (glyph_count-file other) ∙ ap (λ F. glyph_count F.copied) same ∙ glyph_count-file file

  pub map_of-wanted : (c : ℕ) → wanted.codes c ≡ true → map_of other c ≡ map_of file c
  map_of-wanted c h = ap (λ F. F.map c) same ∙ wanted-map (plain_font file) wanted c h

  pub outline_of-wanted : (c : ℕ) → wanted.codes c ≡ true → (g : ℕ) → Reach (outline_of file) (nat_eq (map_of file c)) g
      → outline_of other g ≡ padded (outline_of file g)
  outline_of-wanted c h g r =
      let ok = IsFont-accepted file accepted in
      let below : (x : ℕ) → nat_eq (map_of file c) x ≡ true → x < glyph_count_of file =
      λ x e. subst (λ (y : ℕ). y < glyph_count_of file) (eqb-true (map_of file c) x e)
      (subst (λ (n : ℕ). map_of file c < n) (glyph_count-file file) (ok.mapped_below c)) in
      let w = Reach-font file accepted _ below g r in
      sym (outline-file other g (subst (λ (n : ℕ). g < n) (sym glyph_count_of-same) w.1))
      ∙ ap (λ F. F.outline g) same
      ∙ read_back-reached (plain_font file) wanted ok g (IsKept-wanted (plain_font file) wanted ok c h g w.0)
      ∙ ap padded (outline-file file g w.1)
