-- The glyphs of cuts that are united, and where they differ.
use Rattle.std.proofs.Common.{◌≡◌, ℕ, zero, suc, ◌+◌, ◌<◌, ◌≤◌, ◌&&◌, ◌||◌, Bool, true, false, cond, not, nat_lt}
use Rattle.std.proofs.Common.{List, []}
use Rattle.std.proofs.Common.{find, is_some, inl, inr, Option, None, Some, refl, subst, sym, ap, ◌∙◌, arith}
use Rattle.std.specs.List.{range_with_len}
use Rattle.std.specs.Option.{option_map}
use Rattle.std.specs.Str.{bytes_eq}
use Rattle.std.proofs.lemmas.Bool.{cases_Bool, cases_eq, cases_lt, le-ltb, lt-ltb, not-false}
use Rattle.sfnt_bytes.specs.declared.tag.TheConstants.{ALL_SLOTS}
use Rattle.font_theory.specs.Content.{Content, glyph_count, is_never_copied}
use Rattle.font_theory.specs.Cut.{Arises}
use Rattle.font_theory.specs.Difference.{PARTED, are_different, difference, has_other_part, is_different_glyph}
use Rattle.font_theory.specs.Kinds.{divides_tables, format_of, partition_of, settings, spelled_by}
use Rattle.font_theory.specs.Parting.{Tables, parts_of}
use Rattle.font_theory.specs.declared.Difference.TheVariants.{AtGlyph}
use Rattle.font_theory.specs.declared.kinds.Kind.{Kind}
use Rattle.font_theory.specs.declared.kinds.TheConstants.{SEQUENCES}
use Rattle.font_theory.proofs.ArisesLemmas.{IsClosed-arises}
use Rattle.font_theory.proofs.DifferenceLemmas.{part_same, same_part}
use Rattle.font_theory.proofs.DividedLemmas.{parts-whole}
use Rattle.font_theory.proofs.KindJoinLemmas.{different_glyph-is}
use Rattle.font_theory.proofs.KindLemmas.{kind_is, settings-are, undivided-kind}
use Rattle.font_theory.proofs.LinkLemmas.{never-filled}
use Rattle.font_theory.proofs.LeastLemmas.{find-least_from, find-none}
use Rattle.font_theory.proofs.PartLemmas.{parts_of-undivided}
use Rattle.font_theory.proofs.SettingsLemmas.{IsDivided-by}
use Rattle.font_theory.proofs.WritableLemmas.{IsWritable-closed}
use Rattle.font_write.specs.Parts.{IsNextKept}
use Rattle.divided_tables.specs.DividedTables.{AreOpen, OpenParts, finest, has_same_parts}
use Rattle.divided_tables.proofs.KindPartLemmas.{parts_as}
use Rattle.divided_tables.proofs.OpenLemmas.{parts_same, same_parts}
use Rattle.font_join.specs.Inside.{early_difference}
use Rattle.font_join.specs.KindInside.{SpellsIn, has_other_parts, has_others, least_of, parts_told}
use Rattle.font_join.specs.Union.{is_other}
use Rattle.font_join.proofs.AddFaultLemmas.{difference-late}
use Rattle.font_join.proofs.FirstLemmas.{fails_skip, first_absent, first_of}
use Rattle.font_join.proofs.FrameLemmas.{count_spelled, same_sequences, same_tables, unread_spelled}

-- the first number that passes one of two tests
least_first : (k : ℕ) (o : Option ℕ) → ((j : ℕ) → o ≡ Some j → k ≤ j) → least_of (Some k) o ≡ Some k
least_first k None from = refl
least_first k (Some j) from = let f : nat_lt j k ≡ false = le-ltb j k (from j refl) in rw f refl

least_second : (k : ℕ) (o : Option ℕ) → ((j : ℕ) → o ≡ Some j → k < j) → least_of o (Some k) ≡ Some k
least_second k None from = refl
least_second k (Some j) from = let t : nat_lt k j ≡ true = lt-ltb k j (from j refl) in rw t refl

pub least_none : (o p : Option ℕ) → least_of o p ≡ None → p ≡ None
least_none None p h = h
least_none (Some a) None h = refl
least_none (Some a) (Some b) h = go (nat_lt b a) h
  where
    go : (t : Bool) → cond t (Some b) (Some a) ≡ None → Some b ≡ None
    go true h = cc
    go false h = cc

pub least_parts : (o p : Option ℕ) → least_of o p ≡ None → o ≡ None
least_parts None p h = refl
least_parts (Some a) None h = cc
least_parts (Some a) (Some b) h = go (nat_lt b a) h
  where
    go : (t : Bool) → cond t (Some b) (Some a) ≡ None → Some a ≡ None
    go true h = cc
    go false h = cc

find_here : (p : ℕ → Bool) (k n : ℕ) → p k ≡ true → find p (range_with_len k (suc n)) ≡ Some k
find_here p k n t = rw t refl

find_later : (p : ℕ → Bool) (k n : ℕ) → p k ≡ false → find p (range_with_len k (suc n))
    ≡ find p (range_with_len (k + 1) n)
find_later p k n f = rw f refl

or_second : (a b : Bool) → b ≡ true → (a || b) ≡ true
or_second true b t = refl
or_second false b t = t

pub find_either : (p q : ℕ → Bool) (k n : ℕ) → find (λ g. p g || q g) (range_with_len k n)
    ≡ least_of (find p (range_with_len k n)) (find q (range_with_len k n))
find_either p q k zero = refl
find_either p q k (suc n) =
    elim (cases_Bool (p k)) [
      | inl t ↦
          find_here (λ g. p g || q g) k n (ap (λ b. b || q k) t)
          ∙ sym (ap (λ (o : Option ℕ). least_of o (find q (range_with_len k (suc n)))) (find_here p k n t)
          ∙ least_first k (find q (range_with_len k (suc n))) (λ j e. (find-least_from q k (suc n) j e).from))
      | inr f ↦ elim (cases_Bool (q k)) [
        | inl t ↦
            find_here (λ g. p g || q g) k n (or_second (p k) (q k) t)
            ∙ sym ((λ i. least_of (find_later p k n f i) (find_here q k n t i))
            ∙ least_second k (find p (range_with_len (k + 1) n))
            (λ j e. let low = (find-least_from p (k + 1) n j e).from in omega arith))
        | inr f' ↦
            find_later (λ g. p g || q g) k n ((λ i. f i || f' i))
            ∙ find_either p q (k + 1) n
            ∙ sym (λ i. least_of (find_later p k n f i) (find_later q k n f' i))
      ]
    ]

false_same : (x y : Bool) → (x ≡ false → y ≡ false) → (y ≡ false → x ≡ false) → x ≡ y
false_same true true f g = refl
false_same true false f g = g refl
false_same false true f g = sym (f refl)
false_same false false f g = refl

-- where both are there
where_both : (o p : Option (List ℕ)) (u m : Bool) → ((a b : List ℕ) → o ≡ Some a → p ≡ Some b → u ≡ m)
    → (is_some o && (is_some p && u)) ≡ (is_some o && (is_some p && m))
where_both None p u m e = refl
where_both (Some a) None u m e = refl
where_both (Some a) (Some b) u m e = e a b refl refl

-- the slot of variation sequences is one of those that may have parts
pub past_tags : SEQUENCES < PARTED
unfolding PARTED
past_tags = omega arith

module _ (k : Kind) (K : Content) (arises : Arises (format_of k) K) (g : ℕ) where
  abbrev w : Tables
  w = (spelled_by k K).copied

  -- an outline that is there is of a glyph
  pub low_glyph : (a : List ℕ) → K.outline g ≡ Some a → g < glyph_count w
  low_glyph a e = elim (cases_lt g (glyph_count w)) [
    | inl low ↦ low
    | inr high ↦
        let past = (IsWritable-closed K (IsClosed-arises (format_of k) (kind_is k).law.is_font K arises)).past g
        (subst (λ (n : ℕ). n ≤ g) (count_spelled k K) high) in
        let none : None ≡ Some a = sym past ∙ e in absurd (none_some none)
  ]
    where
      none_some : None ≡ Some a → ⊥
      none_some h = cc

  parts_spelled : (slot : ℕ) → parts_of (partition_of k) w slot g ≡ K.parts slot g
  parts_spelled slot = parts-whole (partition_of k) (settings-are k).partition K
      (IsClosed-arises (format_of k) (kind_is k).law.is_font K arises).font
      (IsDivided-by (settings k) (settings-are k) K arises) slot g

-- two contents that both keep a glyph have another part of it where tables that are open say so
module _ (k : Kind) (some : divides_tables k ≡ true) (K L : Content) (first : Arises (format_of k) K)
    (second : Arises (format_of k) L) (o p : OpenParts) (are : AreOpen (spelled_by k K).copied o)
    (also : AreOpen (spelled_by k L).copied p) (g : ℕ) where
  parts_here : (M : Content) → Arises (format_of k) M → (slot : ℕ)
      → parts_of finest (spelled_by k M).copied slot g ≡ M.parts slot g
  parts_here M m slot =
      sym (parts_as k some (spelled_by k M).copied (unread_spelled k M m) slot g) ∙ parts_spelled k M m g slot

  module _ (lowc : g < glyph_count (spelled_by k K).copied) (lowd : g < glyph_count (spelled_by k L).copied) where
    parts_differ : has_other_part K L g ≡ not (has_same_parts o p g)
    parts_differ = false_same _ _
        (λ f. ap not (same_parts (spelled_by k K).copied (spelled_by k L).copied o p are also g lowc lowd
        (λ slot low. parts_here K first slot ∙ same_part K L g slot f low
        ∙ sym (parts_here L second slot))))
        (λ f. part_same K L g (λ slot. sym (parts_here K first slot)
        ∙ parts_same (spelled_by k K).copied (spelled_by k L).copied o p are also g lowc lowd
        (not-false (has_same_parts o p g) f) slot
        ∙ parts_here L second slot))

  parts_told_of : has_other_parts K L g ≡ has_others (spelled_by k K) (spelled_by k L) o p g
  parts_told_of =
      where_both (K.outline g) (L.outline g) (has_other_part K L g) (not (has_same_parts o p g))
      (λ a b x y. parts_differ (low_glyph k K first g a x) (low_glyph k L second g b y))

-- the first of them
pub parts_found : (k : Kind) → divides_tables k ≡ true → (C D K L : Content) → SpellsIn k C K → SpellsIn k D L
    → (o p : OpenParts) → AreOpen C.copied o → AreOpen D.copied p
    → find (has_others C D o p) (range_with_len 0 (glyph_count C.copied)) ≡ parts_told K L
parts_found k some C D K L h l o p are also =
    let first : AreOpen (spelled_by k K).copied o = subst (λ (M : Content). AreOpen M.copied o) h.is are in
    let second : AreOpen (spelled_by k L).copied p = subst (λ (M : Content). AreOpen M.copied p) l.is also in
    (λ i. find (has_others (h.is i) (l.is i) o p)
    (range_with_len 0 ((ap (λ (M : Content). glyph_count M.copied) h.is ∙ count_spelled k K) i)))
    ∙ (λ i. find (λ g. sym (parts_told_of k some K L h.arises l.arises o p first second g) i)
    (range_with_len 0 (glyph_count K.copied)))

pub parts_none : (k : Kind) → divides_tables k ≡ false → (C D K L : Content) → SpellsIn k C K → SpellsIn k D L
    → None ≡ parts_told K L
parts_none k none C D K L h l = sym (first_absent (has_other_parts K L) (glyph_count K.copied) (λ g low. fails g))
  where
    nowhere : (a b : Bool) → (a && (b && false)) ≡ false
    nowhere true true = refl
    nowhere true false = refl
    nowhere false b = refl

    bare_part : (M : Content) → Arises (format_of k) M → (g slot : ℕ) → M.parts slot g ≡ []
    bare_part M arises g slot = sym (parts_spelled k M arises g slot)
        ∙ parts_of-undivided (partition_of k) (spelled_by k M).copied slot (undivided-kind k none slot) g

    fails : (g : ℕ) → has_other_parts K L g ≡ false
    fails g =
        ap (λ b. is_some (K.outline g) && (is_some (L.outline g) && b))
        (part_same K L g (λ slot. bare_part K h.arises g slot ∙ sym (bare_part L l.arises g slot)))
        ∙ nowhere (is_some (K.outline g)) (is_some (L.outline g))

-- where none is told, a glyph that both keep has the same parts
pub parts_alike : (k : Kind) (K L : Content) → Arises (format_of k) K → parts_told K L ≡ None → (slot : ℕ)
    → slot < PARTED → (g : ℕ) (a b : List ℕ) → K.outline g ≡ Some a → L.outline g ≡ Some b
    → K.parts slot g ≡ L.parts slot g
parts_alike k K L first none slot low g a b x y =
    let within : g < glyph_count K.copied = subst (λ (n : ℕ). g < n) (count_spelled k K) (low_glyph k K first g a x) in
    let fails : has_other_parts K L g ≡ false = find-none (has_other_parts K L) (glyph_count K.copied) g none within in
    same_part K L g slot
    (sym (λ i. is_some (x i) && (is_some (y i) && has_other_part K L g)) ∙ fails) low

-- two contents with the same tables differ in a glyph in its outline or in a part
glyph_told : (k : Kind) (K L : Content) → Arises (format_of k) K → Arises (format_of k) L
    → ((slot : ℕ) → K.copied slot ≡ L.copied slot) → (g : ℕ)
    → is_different_glyph K L g ≡ (has_other_parts K L g || is_other K.outline L.outline g)
glyph_told k K L first second copied g =
    different_glyph-is (settings k) (settings-are k) K L first second copied g
    ∙ go (K.outline g) (L.outline g) (has_other_part K L g)
  where
    turned : (x y : Bool) → (x || y) ≡ (y || (x || false))
    turned true true = refl
    turned true false = refl
    turned false true = refl
    turned false false = refl

    go : (o p : Option (List ℕ)) (m : Bool) → are_different o p m
        ≡ ((is_some o && (is_some p && m)) || are_different o p false)
    go None p m = refl
    go (Some a) None m = refl
    go (Some a) (Some b) m = turned (not (bytes_eq a b)) m

-- contents with no difference in a table have the same tables
pub all_tables : (k : Kind) (K L : Content) → Arises (format_of k) K → Arises (format_of k) L →
    early_difference K L ≡ None
    → (slot : ℕ) → K.copied slot ≡ L.copied slot
all_tables k K L first second early slot = elim (cases_Bool (is_never_copied slot)) [
  | inl t ↦ elim (cases_eq slot SEQUENCES) [
    | inl e ↦ subst (λ (s : ℕ). K.copied s ≡ L.copied s) (sym e)
        (same_sequences (format_of k) (kind_is k).law K L first second)
    | inr other ↦
        (IsClosed-arises (format_of k) (kind_is k).law.is_font K first).font.slots slot (never-filled slot t other)
        ∙ sym ((IsClosed-arises (format_of k) (kind_is k).law.is_font L second).font.slots slot
        (never-filled slot t other))
  ]
  | inr f ↦ same_tables K L early slot f
]

-- so the first glyph that two contents differ in is the lesser of two
pub told_merged : (k : Kind) (C D K L : Content) → SpellsIn k C K → SpellsIn k D L → early_difference K L ≡ None
    → (other parts : Option ℕ) (n : ℕ) → n ≡ glyph_count C.copied
    → other ≡ find (is_other C.outline D.outline) (range_with_len 0 n) → parts ≡ parts_told K L
    → difference K L ≡ option_map AtGlyph (least_of parts other)
told_merged k C D K L h l early other parts n size outlines told =
    let same : n ≡ glyph_count K.copied = size ∙ ap (λ (M : Content). glyph_count M.copied) h.is ∙ count_spelled k K in
    let kept : other ≡ find (is_other K.outline L.outline) (range_with_len 0 (glyph_count K.copied)) =
    outlines ∙ (λ i. find (is_other (h.is i).outline (l.is i).outline) (range_with_len 0 (same i))) in
    difference-late K L early
    ∙ (λ i. option_map AtGlyph (find (λ g. glyph_told k K L h.arises l.arises (all_tables k K L h.arises l.arises
    early) g
    i) (range_with_len 0 (glyph_count K.copied))))
    ∙ ap (option_map AtGlyph) (find_either (has_other_parts K L) (is_other K.outline L.outline) 0 (glyph_count K.copied)
    ∙ (λ i. least_of (sym told i) (sym kept i)))

-- the first glyph that both keep and that does not pass a test, sought among those that the second content keeps
module _ (C D : Content) (same : ℕ → Bool) where
  abbrev p : ℕ → Bool
  p g = is_some (C.outline g) && (is_some (D.outline g) && not (same g))

  absent-first : (g : ℕ) → C.outline g ≡ None → p g ≡ false
  absent-first g none =
      ap (λ (o : Option (List ℕ)). is_some o && (is_some (D.outline g) && not (same g))) none

  absent-second : (g : ℕ) → D.outline g ≡ None → p g ≡ false
  absent-second g none =
      ap (λ (o : Option (List ℕ)). is_some (C.outline g) && (is_some o && not (same g))) none
      ∙ and_false (is_some (C.outline g))
    where
      and_false : (b : Bool) → (b && false) ≡ false
      and_false true = refl
      and_false false = refl

  pub others_skip : (from g : ℕ) → IsNextKept D from g → ((h : ℕ) → h < from → p h ≡ false) → (h : ℕ) → h < g
      → p h ≡ false
  others_skip from g next below = fails_skip p from g below (λ h a b. absent-second h (next.passed h a b))

  pub others_found : (g : ℕ) → ((h : ℕ) → glyph_count C.copied ≤ h → C.outline h ≡ None)
      → ((h : ℕ) → h < g → p h ≡ false) → p g ≡ true → Some g ≡ find p (range_with_len 0 (glyph_count C.copied))
  others_found g past below here = elim (cases_lt g (glyph_count C.copied)) [
    | inl low ↦ sym (first_of p g (glyph_count C.copied) low below here)
    | inr high ↦ absurd (true-false (sym here ∙ absent-first g (past g high)))
  ]
    where
      true-false : true ≡ false → ⊥
      true-false e = cc

  pub others_none : (g : ℕ) → ((h : ℕ) → glyph_count D.copied ≤ h → D.outline h ≡ None)
      → ((h : ℕ) → h < g → p h ≡ false) → glyph_count D.copied ≤ g
      → None ≡ find p (range_with_len 0 (glyph_count C.copied))
  others_none g past below end = sym (first_absent p (glyph_count C.copied) (λ h a. elim (cases_lt h g) [
    | inl low ↦ below h low
    | inr high ↦ absent-second h (past h (omega (arith, high, end)))
  ]))
