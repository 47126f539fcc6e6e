-- What nothing leads to is not kept, and what is not kept is not in the cut.
use Rattle.std.proofs.Common.{◌≡◌, ◌∙◌, ℕ, ◌<◌, ◌≤◌, Bool, true, false, List, [], None, ap, cond, inl, inr, length}
use Rattle.std.proofs.Common.{refl}
use Rattle.std.proofs.Common.{subst, sym, unwrap_or}
use Rattle.std.proofs.lemmas.Bool.{false_from_ne_true}
use Rattle.sfnt_bytes.specs.Lines.{when}
use Rattle.sfnt_bytes.specs.declared.directory.TheConstants.{MAX_FILE}
use Rattle.font_file.specs.Font.{map_of}
use Rattle.font_glyph.specs.Reach.{Reach}
use Rattle.font_glyph.specs.RecordMap.{record_in}
use Rattle.font_glyph.specs.Reach.Reach.{part, seed}
use Rattle.font_tables.specs.Fields.{glyph_count_of}
use Rattle.font_tables.specs.Outlines.{outline_of}
use Rattle.font_theory.specs.Bytes.{padded}
use Rattle.font_theory.specs.Content.{Font, Wanted, content, glyph_count, is_kept, is_root, plain_font, read_back}
use Rattle.font_theory.specs.Cut.{cut}
use Rattle.font_theory.specs.Kinds.{AreSettings, Settings, fault_of, font_of, format_of, partition_of, reduced}
use Rattle.font_theory.specs.Kinds.{settings, tables_by, tables_of, there_by}
use Rattle.font_theory.specs.Parting.{Partition, parts_of}
use Rattle.font_theory.specs.declared.kinds.Kind.{Kind}
use Rattle.font_theory.proofs.FileWantedLemmas.{outline-file}
use Rattle.font_theory.proofs.KindFileLemmas.{font_by-cut, is_kept-by, parts-by}
use Rattle.font_theory.proofs.KindLemmas.{settings-are}
use Rattle.font_theory.proofs.ReaderLemmas.{count-seen}
use Rattle.font_theory.proofs.SettingsLemmas.{IsFont-by, tables_by-below}
use Rattle.font_theory.proofs.WordLemmas.{count-reduced}
use Rattle.font_theory.proofs.WantedLemmas.{Reach-along, is_root-tells, is_seed-tells}
use Rattle.font_subset.specs.CutOfFont.{IsWritten}
use Rattle.commands.specs.Dropped.{DropsOthers, IsUnreached}

module _ (kind : Kind) (font made : List ℕ) (wanted : Wanted) (accepted : fault_of kind font ≡ None)
    (written : IsWritten (cut (format_of kind) font wanted) made) where
  abbrev p : Partition
  p = partition_of kind

  abbrev s : Settings
  s = settings kind

  abbrev is : AreSettings s
  is = settings-are kind

  abbrev F : Font
  F = font_of kind font

  read : font_of kind made ≡ read_back (reduced p (content F wanted))
  read = (subst (λ (b : List ℕ). (fault_of kind b ≡ None)
      × (font_of kind b ≡ read_back (reduced p (content F wanted)))) (sym written.is)
      (font_by-cut s is font accepted wanted
      (subst (λ (b : List ℕ). length b ≤ MAX_FILE) written.is written.small))).1

  -- a root is a seed
  root_is : (g r : ℕ) (u : IsUnreached font wanted g) → is_root F wanted r ≡ true → u.seeds r ≡ true
  root_is g r u h = elim (is_root-tells F wanted r h) [
    | inl e ↦ elim (is_seed-tells _ r e) [
      | inl zero ↦ subst (λ (x : ℕ). u.seeds x ≡ true) (sym zero) u.notdef
      | inr w ↦ at_code w.0 (wanted.codes w.0) refl w.1
    ]
    | inr e ↦ u.of_glyphs r e.0
  ]
    where
      at_code : (c : ℕ) (b : Bool) → wanted.codes c ≡ b → cond b (map_of font c) 0 ≡ r → u.seeds r ≡ true
      at_code c true w e = subst (λ (x : ℕ). u.seeds x ≡ true) e (u.of_codes c w)
      at_code c false w e = subst (λ (x : ℕ). u.seeds x ≡ true) e u.notdef

  not_kept : (g : ℕ) → IsUnreached font wanted g → is_kept F wanted g ≡ false
  not_kept g u = false_from_ne_true _ (λ kept. u.unreached (Reach-along (outline_of font) (outline_of font) _ u.seeds
      (λ r h. root_is g r u h) (λ x y r c. c) g ((is_kept-by s is font accepted wanted g).0 kept)))

  count_is : glyph_count_of made ≡ glyph_count_of font
  count_is =
      sym (count-seen made (tables_by s made) (λ _. false) (tables_by-below s is made))
      ∙ ap (λ (G : Font). glyph_count G.copied) read
      ∙ count-reduced p is.partition F (IsFont-by s is font accepted) wanted
      ∙ count-seen font (tables_by s font) (there_by s (tables_by s font) (plain_font font).outline)
      (tables_by-below s is font)

  outline_is : (g : ℕ) → (plain_font made).outline g
      ≡ record_in (λ x. when (is_kept F wanted x) (padded (F.outline x))) g
  unfolding reduced
  outline_is g = ap (λ (G : Font). G.outline g) read

  no_outline : (g : ℕ) → g < glyph_count_of font → is_kept F wanted g ≡ false → outline_of made g ≡ []
  no_outline g low dropped =
      sym (outline-file made g (subst (λ (n : ℕ). g < n) (sym count_is) low)) ∙ outline_is g
      ∙ ap (λ (b : Bool). unwrap_or (when b (padded (F.outline g))) []) dropped

  pub drops_others : DropsOthers kind font wanted made
  drops_others = record {
    outlines = λ g u. no_outline g u.below (not_kept g u);
    parts = λ g u slot. parts-by s is font accepted wanted made read slot g
        ∙ ap (λ b. cond b (parts_of p (tables_of kind font) slot g) []) (not_kept g u);
  }
