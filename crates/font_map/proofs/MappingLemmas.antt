-- The map of a subtable, and of the mapping that chose it.
use Rattle.std.proofs.Common.{◌≡◌, ◌≢◌, ℕ, ◌<◌, ◌≤◌, ◌⊎◌, Bool, false, cond, get_or, nat_eq, List, Option, Some}
use Rattle.std.proofs.Common.{MatchOption, sym, ap, subst, refl, ◌∙◌, arith, inl, inr}
use Rattle.std.proofs.lemmas.Bool.Decides.{nat_tests}
use Rattle.std.specs.Option.{option_map_or}
use Rattle.sfnt_bytes.specs.Number.{u16_at}
use Rattle.codes.specs.CharacterMap.{IsCharacterMap, clipped}
use Rattle.font_map.specs.Cmap.{chosen_record, subtable_at}
use Rattle.cmap_subtables.specs.Format4.{segment_glyph}
use Rattle.font_map.specs.Inside.{IsChosen, subtable_glyph}
use Rattle.font_map.specs.declared.subtable.Subtable.{Subtable}
use Rattle.cmap_subtables.specs.Format12.{group_glyph}
use Rattle.font_map.specs.Mapping.{listed_glyph, mapping_of}
use Rattle.codes.specs.Runs.{IsNext, IsRun, NoRun}
use Rattle.codes.specs.declared.runs.Run.{Run}
use Rattle.codes.proofs.PieceLemmas.{clipped_past}

listed_segments : (s : List ℕ) (c : ℕ) → u16_at s 0 ≡ 4 → segment_glyph s c ≡ listed_glyph s c
unfolding listed_glyph
listed_segments s c h = sym (ap (λ (x : ℕ). cond (nat_eq x 4) (segment_glyph s c) (group_glyph s c)) h)

listed_groups : (s : List ℕ) (c : ℕ) → u16_at s 0 ≢ 4 → group_glyph s c ≡ listed_glyph s c
unfolding listed_glyph
listed_groups s c h = let no : nat_eq (u16_at s 0) 4 ≡ false = grind (arith, nat_tests) in
    sym (ap (λ (b : Bool). cond b (segment_glyph s c) (group_glyph s c)) no)

pub listed_by_segments : (s : List ℕ) → u16_at s 0 ≡ 4 → segment_glyph s ≡ listed_glyph s
listed_by_segments s h = λ i c. listed_segments s c h i

pub listed_by_groups : (s : List ℕ) → u16_at s 0 ≢ 4 → group_glyph s ≡ listed_glyph s
listed_by_groups s h = λ i c. listed_groups s c h i

-- the map of the chosen subtable
pub mapping_of-chosen : (cmap s : List ℕ) (n k : ℕ) → chosen_record cmap ≡ Some k → s ≡ subtable_at cmap k
    → clipped n (listed_glyph s) ≡ mapping_of cmap n
unfolding mapping_of
mapping_of-chosen cmap s n k h e =
    ap (λ (t : List ℕ). clipped n (listed_glyph t)) e
    ∙ ap (λ (o : Option ℕ). clipped n (λ c. option_map_or (λ j. listed_glyph (subtable_at cmap j) c) o 0)) (sym h)

pub map_of_chosen : (cmap : List ℕ) (n k : ℕ) (t : Subtable) (v : List ℕ × ℕ) → IsChosen cmap n k t → (cmap, n) ≡ v
    → clipped n (subtable_glyph t) ≡ mapping_of v.0 v.1
map_of_chosen cmap n k t v h q =
    ap (clipped n) h.map
    ∙ mapping_of-chosen cmap (subtable_at cmap k) n k h.record_is refl
    ∙ ap (λ (w : List ℕ × ℕ). mapping_of w.0 w.1) q

pub piece_of_chosen : (cmap : List ℕ) (n k from : ℕ) (t : Subtable) (r : Option Run) (v : List ℕ × ℕ)
    → IsChosen cmap n k t → (cmap, n) ≡ v → IsNext (clipped n (subtable_glyph t)) from r
    → IsNext (mapping_of v.0 v.1) from r
piece_of_chosen cmap n k from t r v h q p = subst (λ (f : ℕ → ℕ). IsNext f from r) (map_of_chosen cmap n k t v h q) p

-- a mapping gives glyphs below their number, and is a character map
clipped_small : (n : ℕ) (f : ℕ → ℕ) (c : ℕ) → (clipped n f c ≡ 0) ⊎ (clipped n f c < n)
clipped_small n f c = grind (arith, nat_tests)

pub mapping_of-small : (cmap : List ℕ) (n c : ℕ) → (mapping_of cmap n c ≡ 0) ⊎ (mapping_of cmap n c < n)
unfolding mapping_of
mapping_of-small cmap n c =
    clipped_small n (λ x. option_map_or (λ k. listed_glyph (subtable_at cmap k) x) (chosen_record cmap) 0) c

pub is_character_map-clipped : (n : ℕ) (f : ℕ → ℕ) → n ≤ 65536 → IsCharacterMap (clipped n f)
is_character_map-clipped n f h =
    record {
      codes = λ c x. clipped_past n f c x;
      glyphs = λ c. elim (clipped_small n f c) [ inl z ↦ omega (arith, z) | inr z ↦ omega (arith, z) ];
    }

pub is_character_map-mapping_of : (cmap : List ℕ) (n : ℕ) → n ≤ 65536 → IsCharacterMap (mapping_of cmap n)
unfolding mapping_of
is_character_map-mapping_of cmap n h =
    is_character_map-clipped n (λ x. option_map_or (λ k. listed_glyph (subtable_at cmap k) x) (chosen_record cmap) 0) h

-- likewise what a mapping sees as its value
pub is_character_map : (cmap : List ℕ) (n : ℕ) (v : List ℕ × ℕ) → n < 65536 → (cmap, n) ≡ v
    → IsCharacterMap (mapping_of v.0 v.1)
is_character_map cmap n v h e = subst (λ (w : List ℕ × ℕ). IsCharacterMap (mapping_of w.0 w.1)) e
    (is_character_map-mapping_of cmap n (omega (arith, h)))

-- the run of a subtable is that of the mapping that chose it
abbrev IsFirst : (ℕ → ℕ) → ℕ → Option Run → Type 0
IsFirst m from r = MatchOption r (NoRun m from) (IsRun m from)

pub run_of_chosen : (cmap : List ℕ) (n k from : ℕ) (t : Subtable) (m : ℕ → ℕ) (r : Option Run) (v : List ℕ × ℕ)
    → IsChosen cmap n k t → (cmap, n) ≡ v → subtable_glyph t ≡ m → IsFirst (clipped n m) from r
    → IsFirst (mapping_of v.0 v.1) from r
run_of_chosen cmap n k from t m r v h q e p =
    subst (λ (f : ℕ → ℕ). IsFirst f from r) (ap (clipped n) (sym e) ∙ map_of_chosen cmap n k t v h q) p

-- a list with the glyphs of the chosen subtable is the mapping
pub laid_out_of_chosen : (cmap glyphs : List ℕ) (n k : ℕ) (t : Subtable) (m : ℕ → ℕ) (v : List ℕ × ℕ)
    → IsChosen cmap n k t → (cmap, n) ≡ v → subtable_glyph t ≡ m → ((c : ℕ) → get_or glyphs c 0 ≡ clipped n m c)
    → (λ c. get_or glyphs c 0) ≡ mapping_of v.0 v.1
laid_out_of_chosen cmap glyphs n k t m v h q e all =
    (λ i c. all c i) ∙ ap (clipped n) (sym e) ∙ map_of_chosen cmap n k t v h q
