-- The glyphs of a font that are there.
use Rattle.std.proofs.Common.{◌≡◌, ◌≢◌, ℕ, ◌<◌, ◌≤◌, Bool, true, false, ◌&&◌, ◌||◌, inl, inr, nat_eq, nat_lt, not, List}
use Rattle.std.proofs.Common.{[], ◌∷◌, length, refl, sym, ◌∙◌, ap, subst, arith}
use Rattle.std.proofs.lemmas.Bool.{cases_eq, cases_lt, eqb-true, false_from_ne_true, le-ltb, lt-ltb, ltb-true, ne_eqb}
use Rattle.std.proofs.lemmas.Bool.{or_left}
use Rattle.font_glyph.specs.Marks.{has}
use Rattle.font_glyph.specs.Reach.{any_below}
use Rattle.font_tables.specs.Fields.{glyph_count_of}
use Rattle.font_tables.specs.Outlines.{outline_of}
use Rattle.font_theory.specs.Content.{glyph_count, plain_font}
use Rattle.font_theory.specs.Difference.{PARTED}
use Rattle.font_theory.specs.Kinds.{font_of, full_settings, has_record, layout_settings, lean_settings, settings}
use Rattle.font_theory.specs.Kinds.{tables_of, there_by, variable_settings}
use Rattle.font_theory.specs.declared.kinds.Kind.{Kind}
use Rattle.font_theory.specs.declared.kinds.Kind.TheVariants.{Full, Layout, Lean, Variable}
use Rattle.font_theory.proofs.FileWantedLemmas.{outline-file}
use Rattle.font_theory.proofs.SettingsLemmas.{there-low}
use Rattle.divided_tables.specs.DividedTables.{OpenParts, count_in, has_parts}
use Rattle.divided_tables.proofs.KindPartLemmas.{parts_as}
use Rattle.divided_tables.proofs.OpenLemmas.{count_open, has_parts-is}
use Rattle.font_subset.specs.Inside.{AreNumbered, IsPresence}
use Rattle.font_subset.proofs.KindSourceLemmas.{divides_all, unread_file}
use Rattle.font_subset.proofs.SourceLemmas.{count_as}

-- in full cuts no glyph is there
pub none_there : (file : List ℕ) (g : ℕ) → (font_of Full file).there g ≡ false
unfolding full_settings there_by
none_there file g = refl

-- in others
by_number : (kind : Kind) → kind ≢ Full → (settings kind).by_number ≡ true
unfolding lean_settings layout_settings variable_settings
by_number Full other = absurd (other refl)
by_number Lean other = refl
by_number Layout other = refl
by_number Variable other = refl

-- bytes of which some may be there
some_bytes : (b : List ℕ) → 0 < length b → nat_lt 0 (length b) ≡ true
some_bytes b some = lt-ltb 0 (length b) some

not_empty : (b : List ℕ) → not (nat_eq (length b) 0) ≡ nat_lt 0 (length b)
not_empty [] = refl
not_empty (x ∷ b) = ap not (ne_eqb (length (x ∷ b)) 0 (λ e. omega (arith, e)))
    ∙ sym (lt-ltb 0 (length (x ∷ b)) (omega arith))

pub some_length : (b : List ℕ) → nat_eq (length b) 0 ≡ false → 0 < length b
some_length b h = ltb-true 0 (length b) (sym (not_empty b) ∙ ap not h)

pub no_length : (b : List ℕ) → nat_eq (length b) 0 ≡ true → length b ≡ 0
no_length b h = eqb-true (length b) 0 h

pub count_held : (kind : Kind) (file : List ℕ) (tables : OpenParts) → IsPresence kind file tables
    → glyph_count_of file ≡ count_in tables
count_held kind file tables is = count_as kind file ∙ sym (count_open (tables_of kind file) tables is.are_open)

module _ (kind : Kind) (file : List ℕ) (tables : OpenParts) (is : IsPresence kind file tables) (g : ℕ)
    (low : g < glyph_count_of file) where
  pub glyph : g < count_in tables
  glyph = subst (λ (n : ℕ). g < n) (count_held kind file tables is) low

  -- a glyph is there that has an outline or a part
  there_is : (font_of kind file).there g ≡ (nat_lt 0 (length (outline_of file g)) || has_parts tables g)
  unfolding there_by has_record
  there_is =
      let some = divides_all kind is.numbered in
      let within : g < glyph_count (tables_of kind file) = subst (λ (n : ℕ). g < n) (count_as kind file) low in
      (λ i. by_number kind is.numbered i && (lt-ltb g (glyph_count (tables_of kind file)) within i
      && (nat_lt 0 (length (outline-file file g low i)) || any_below (λ slot. nat_lt 0 (length (parts_as kind some
      (tables_of kind file) (unread_file kind file) slot g i))) PARTED)))
      ∙ ap (λ b. nat_lt 0 (length (outline_of file g)) || b)
      (sym (has_parts-is (tables_of kind file) tables is.are_open g within))

  pub there_outline : 0 < length (outline_of file g) → (font_of kind file).there g ≡ true
  there_outline some = there_is ∙ or_left _ _ (some_bytes (outline_of file g) some)

  pub there_parts : (b : Bool) → length (outline_of file g) ≡ 0 → b ≡ has_parts tables g
      → b ≡ (font_of kind file).there g
  there_parts b empty parts = parts ∙ sym (there_is ∙ ap (λ (n : ℕ). nat_lt 0 n || has_parts tables g) empty)

-- no number past the glyphs is there
pub none_past : (kind : Kind) (file : List ℕ) (g : ℕ) → glyph_count_of file ≤ g → (font_of kind file).there g ≡ false
none_past kind file g past = false_from_ne_true _ (λ t.
    let low = there-low (settings kind) (tables_of kind file) (plain_font file).outline g t in
    omega (arith, low, past, count_as kind file))

-- all glyphs are those below the count
pub all_there : (kind : Kind) (file : List ℕ) (n : ℕ) → n ≡ glyph_count_of file → (g : ℕ)
    → (nat_lt g n && (font_of kind file).there g) ≡ (font_of kind file).there g
all_there kind file n is g = elim (cases_lt g n) [
  | inl low ↦ ap (λ b. b && (font_of kind file).there g) (lt-ltb g n low)
  | inr past ↦
      let gone = none_past kind file g (omega (arith, past, is)) in
      ap (λ b. b && (font_of kind file).there g) (le-ltb g n past) ∙ sym gone
]

-- marks of glyphs that are there
module _ (there : ℕ → Bool) where
  nothing_or : (b : Bool) → b ≡ (b || false)
  nothing_or true = refl
  nothing_or false = refl

  pub numbered_none : (glyphs : ℕ → Bool) (old : List Bool) → ((g : ℕ) → (glyphs g && there g) ≡ false)
      → AreNumbered there glyphs old old
  numbered_none glyphs old none = record {
    count = refl;
    marked = λ g. nothing_or (has old g) ∙ ap (λ b. has old g || b) (sym (none g));
  }

  -- a glyph that is marked already
  pub numbered_marked : (g : ℕ) (old : List Bool) → has old g ≡ true → AreNumbered there (nat_eq g) old old
  numbered_marked g old marked = record {
    count = refl;
    marked = λ h. elim (cases_eq g h) [
      | inl e ↦
          let is : has old h ≡ true = ap (has old) (sym e) ∙ marked in
          is ∙ sym (ap (λ b. b || (nat_eq g h && there h)) is)
      | inr n ↦ nothing_or (has old h) ∙ ap (λ b. has old h || (b && there h)) (sym (ne_eqb g h n))
    ];
  }

  -- a glyph that is not there
  pub none_at : (g : ℕ) → there g ≡ false → (h : ℕ) → (nat_eq g h && there h) ≡ false
  none_at g gone h = elim (cases_eq g h) [
    | inl e ↦ (λ i. nat_eq g h && (ap there (sym e) ∙ gone) i) ∙ nothing (nat_eq g h)
    | inr n ↦ ap (λ b. b && there h) (ne_eqb g h n)
  ]
    where
      nothing : (b : Bool) → (b && false) ≡ false
      nothing true = refl
      nothing false = refl

  both_or : (a b c t : Bool) → ((a || (b && t)) || (c && t)) ≡ (a || ((b || c) && t))
  both_or true b c t = refl
  both_or false true true true = refl
  both_or false true true false = refl
  both_or false true false true = refl
  both_or false true false false = refl
  both_or false false c t = refl

  pub numbered_more : (first second both : ℕ → Bool) (old now new : List Bool)
      → ((g : ℕ) → both g ≡ (first g || second g)) → AreNumbered there first old now
      → AreNumbered there second now new → AreNumbered there both old new
  numbered_more first second both old now new is before after = record {
    count = after.count ∙ before.count;
    marked = λ g. after.marked g ∙ ap (λ b. b || (second g && there g)) (before.marked g)
        ∙ both_or (has old g) (first g) (second g) (there g)
        ∙ ap (λ b. has old g || (b && there g)) (sym (is g));
  }

  pub numbered_same : (first second : ℕ → Bool) (old new : List Bool)
      → ((g : ℕ) → (first g && there g) ≡ (second g && there g)) → AreNumbered there first old new
      → AreNumbered there second old new
  numbered_same first second old new is are =
      record { count = are.count; marked = λ g. are.marked g ∙ ap (λ b. has old g || b) (is g) }
