-- A cut for the glyphs of a list is that for the set from which the list was made. So the cut for a closure, without
-- links, is the closed cut.
use Rattle.std.proofs.Common.{◌≡◌, ◌∙◌, ℕ, ◌<◌, ◌+◌, ◌&&◌, ◌||◌, nat_eq, Bool, true, false, List, None, ap, refl}
use Rattle.std.proofs.Common.{subst, sym, arith, [], if◌then◌else◌}
use Rattle.sfnt_bytes.specs.Lines.{when}
use Rattle.std.proofs.Math.Path.{fun_ext}
use Rattle.std.specs.List.{filter, list_any, range_with_len}
use Rattle.std.proofs.lemmas.Bool.{eqb-true, eq-eqb}
use Rattle.std.proofs.lemmas.List.Folds.{list_any_at}
use Rattle.std.proofs.lemmas.List.FromFn.{get_or-range_with_len, length-range_with_len}
use Rattle.std.proofs.lemmas.Map.Views.{any-filter_same}
use Rattle.codes.specs.CharacterMap.{restricted}
use Rattle.font_glyph.specs.Reach.{reached}
use Rattle.font_tables.specs.Fields.{glyph_count_of}
use Rattle.font_theory.specs.Bytes.{padded}
use Rattle.font_theory.specs.Content.{Content, Font, content, glyph_count, is_kept, is_root, is_seed}
use Rattle.font_theory.specs.Closed.{closed}
use Rattle.font_theory.specs.Cut.{cut}
use Rattle.font_theory.specs.Kinds.{fault_of, format_by, format_of, settings}
use Rattle.font_theory.specs.declared.kinds.Kind.{Kind}
use Rattle.font_theory.proofs.KindFileLemmas.{is_there-by}
use Rattle.font_theory.proofs.KindLemmas.{settings-are}
use Rattle.font_subset.specs.CutOfKind.{closed_of, cut_of, keeps_links}
use Rattle.commands.specs.Run.{requested_cut}
use Rattle.fontcut_c.specs.GlyphSets.{closing, closure_of, exactly}
use Rattle.fontcut_c.specs.Requests.{RawRequest, codes_of_ranges, request_of, wished}

-- the numbers below a count at which a test is true
abbrev listed : (ℕ → Bool) → ℕ → ℕ → Bool
listed test count = λ g. list_any (λ h. nat_eq h g) (filter test (range_with_len 0 count))

listed-below : (test : ℕ → Bool) (count g : ℕ) → g < count → listed test count g ≡ test g
listed-below test count g low =
    any-filter_same (λ h. nat_eq h g) test (test g) (λ k e. ap test (eqb-true k g e)) (range_with_len 0 count)
    ∙ ap (λ b. test g && b) (list_any_at (λ h. nat_eq h g) (range_with_len 0 count) g 0
    (subst (λ n. g < n) (sym (length-range_with_len 0 count)) low)
    (eq-eqb _ g (get_or-range_with_len 0 count g 0 low ∙ from_zero)))
    ∙ and_true (test g)
  where
    from_zero : 0 + g ≡ g
    from_zero = omega arith

    and_true : (b : Bool) → (b && true) ≡ b
    and_true true = refl
    and_true false = refl

-- cuts for the same codes, and for glyphs of which the same are there, have the same content
same_content : (F : Font) (codes m n : ℕ → Bool) → ((g : ℕ) → (m g && F.there g) ≡ (n g && F.there g))
    → content F (record { codes = codes; glyphs = m }) ≡ content F (record { codes = codes; glyphs = n })
unfolding is_kept is_root
same_content F codes m n same =
    ap (λ (roots : ℕ → Bool). record {
      copied = F.copied;
      head = F.head;
      map = restricted codes F.map;
      outline = λ g. when (reached F.outline roots (glyph_count F.copied) g) (padded (F.outline g));
      parts = λ slot g. if reached F.outline roots (glyph_count F.copied) g then F.parts slot g else [];
      there = λ g. reached F.outline roots (glyph_count F.copied) g && F.there g;
    }) (fun_ext (λ g. ap (λ b. is_seed (restricted codes F.map) g || b) (same g)))

-- the numbers of glyphs that are there are below the count
there_case : (kind : Kind) (file : List ℕ) → fault_of kind file ≡ None → (test : ℕ → Bool) (g : ℕ) (b : Bool)
    → ((format_of kind).font file).there g ≡ b
    → (listed test (glyph_count_of file) g && b) ≡ (test g && b)
unfolding format_by
there_case kind file accepted test g false e =
    and_false (listed test (glyph_count_of file) g) ∙ sym (and_false (test g))
  where
    and_false : (b : Bool) → (b && false) ≡ false
    and_false true = refl
    and_false false = refl
there_case kind file accepted test g true e =
    let w = (is_there-by (settings kind) (settings-are kind) file accepted g).0 e in
    ap (λ b. b && true) (listed-below test (glyph_count_of file) g w.1)

pub listed_cut : (kind : Kind) (file : List ℕ) → fault_of kind file ≡ None → (codes test : ℕ → Bool)
    → cut (format_of kind) file (record { codes = codes; glyphs = listed test (glyph_count_of file) })
    ≡ cut (format_of kind) file (record { codes = codes; glyphs = test })
listed_cut kind file accepted codes test =
    ap (λ (C : Content). (format_of kind).file C)
    (same_content ((format_of kind).font file) codes (listed test (glyph_count_of file)) test
    (λ g. there_case kind file accepted test g (((format_of kind).font file).there g) refl))

-- the cut of a kind that keeps links, for a closure, is the closed cut
pub closure_cut : (kind : Kind) (font : List ℕ) (a : RawRequest) → fault_of kind font ≡ None → keeps_links kind ≡ true
    → requested_cut (request_of kind (exactly a (closure_of kind font a))) font
    ≡ requested_cut (request_of kind (closing a)) font
unfolding closed
closure_cut kind font a accepted links =
    listed_cut kind font accepted (codes_of_ranges a.ranges) (closed_of kind font (wished a)).glyphs
    ∙ (λ i. cut_of kind font (if sym links i then closed_of kind font (wished a) else wished a))
