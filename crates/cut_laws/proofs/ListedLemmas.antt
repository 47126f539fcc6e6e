-- A cut for the glyphs of a list is that for the set from which the list was made.
use Rattle.std.proofs.Common.{◌≡◌, ◌≢◌, ◌∙◌, ℕ, ◌<◌, ◌+◌, ◌&&◌, nat_eq, Bool, true, false, List, None, ap, refl, Some}
use Rattle.std.proofs.Common.{subst, sym, arith}
use Rattle.std.specs.List.{range_with_len}
use Rattle.std.proofs.lemmas.Bool.{eqb-true, eq-eqb, lt-ltb}
use Rattle.std.proofs.lemmas.List.Folds.{list_any_at}
use Rattle.std.proofs.lemmas.List.FromFn.{get_or-range_with_len, length-range_with_len}
use Rattle.std.proofs.lemmas.Map.Views.{any-filter_same}
use Rattle.codes.specs.CharacterMap.{is_mapped}
use Rattle.font_tables.specs.Fields.{glyph_count_of}
use Rattle.font_file.specs.Font.{map_of}
use Rattle.font_theory.specs.Closed.{closed}
use Rattle.font_theory.specs.Content.{Wanted, everything}
use Rattle.font_theory.specs.Kinds.{fault_of, font_of, format_by, format_of, settings}
use Rattle.font_theory.specs.declared.kinds.Kind.{Kind}
use Rattle.font_theory.proofs.ContentLemmas.{content-mapped}
use Rattle.font_theory.proofs.KindFileLemmas.{is_there-by}
use Rattle.font_theory.proofs.KindLemmas.{kind_is, settings-are}
use Rattle.font_theory.proofs.SettingsLemmas.{IsFont-by}
use Rattle.font_theory.proofs.WantedLemmas.{kept-there}
use Rattle.font_subset.specs.CutOfKind.{closed_of, cut_of}
use Rattle.font_subset.specs.KeptGlyphs.{glyphs_wanted, numbers_in}
use Rattle.cut_laws.specs.Laws.{ClosedCutIsPlain, CutIsGivenBack, OwnCutIsRenewed, listed}

-- below the count a list of numbers has those at which its test is true
listed-below : (test : ℕ → Bool) (count g : ℕ) → g < count → glyphs_wanted (Some (numbers_in test count)) g ≡ test g
listed-below test count g low =
    any-filter_same (λ h. nat_eq h g) test (test g) (λ k e. ap test (eqb-true k g e)) (range_with_len 0 count)
    ∙ ap (λ b. test g && b) (list_any_at (λ h. nat_eq h g) (range_with_len 0 count) g 0
    (subst (λ n. g < n) (sym (length-range_with_len 0 count)) low)
    (eq-eqb _ g (get_or-range_with_len 0 count g 0 low ∙ from_zero)))
    ∙ and_true (test g)
  where
    from_zero : 0 + g ≡ g
    from_zero = omega arith

    and_true : (b : Bool) → (b && true) ≡ b
    and_true true = refl
    and_true false = refl

-- the cut for some codes and such a list is that for what has the mapped ones of these codes, and of the glyphs that
-- are there those at which the test is true
module _ (kind : Kind) (file : List ℕ) (accepted : fault_of kind file ≡ None) where
  format_accepted : (format_of kind).fault file ≡ None
  format_accepted = (kind_is kind).fault_is file ∙ accepted

  cut-listed : (codes test : ℕ → Bool) (W : Wanted) → ((c : ℕ) → map_of file c ≢ 0 → codes c ≡ W.codes c)
      → ((g : ℕ) → (font_of kind file).there g ≡ true → test g ≡ W.glyphs g)
      → cut_of kind file (listed codes (numbers_in test (glyph_count_of file))) ≡ cut_of kind file W
  unfolding format_by
  cut-listed codes test W same there =
      ap (λ K. (format_of kind).file K)
      (content-mapped ((format_of kind).font file) (listed codes (numbers_in test (glyph_count_of file))) W
      ((kind_is kind).law.is_font file format_accepted) same
      (λ g t. listed-below test (glyph_count_of file) g
      ((is_there-by (settings kind) (settings-are kind) file accepted g).0 t).1 ∙ there g t))

pub own_renewed : OwnCutIsRenewed
own_renewed kind file codes accepted mapped =
    cut-listed kind file accepted codes _ everything mapped
    (λ g t. kept-there (font_of kind file) everything
    (IsFont-by (settings kind) (settings-are kind) file accepted) g refl t)

pub given_back : CutIsGivenBack
given_back kind file current =
    own_renewed kind file (is_mapped (map_of file)) (sym ((kind_is kind).fault_is file) ∙ current.accepted)
    (λ c some. lt-ltb 0 (map_of file c) (grind (arith, some)))
    ∙ current.written

pub closed_plain : ClosedCutIsPlain
unfolding closed
closed_plain kind file W accepted =
    cut-listed kind file accepted W.codes _ (closed_of kind file W) (λ _ _. refl) (λ _ _. refl)
