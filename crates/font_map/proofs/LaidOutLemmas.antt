-- Blocks of codes that are skipped, and the groups that are laid out over the free codes.
use Rattle.std.proofs.Common.{◌≡◌, ◌≢◌, ℕ, ◌+◌, ◌<◌, ◌≤◌, Bool, true, cond, List, [], ◌∷◌, length, find, get_or, set}
use Rattle.std.proofs.Common.{Some, None, ◌⊎◌, sym, ap, subst, ◌∙◌, arith, inl, inr}
use Rattle.std.proofs.lemmas.Bool.{cases_lt}
use Rattle.std.proofs.lemmas.Bool.Decides.{nat_tests}
use Rattle.std.proofs.lemmas.List.{get_or-set_same, get_or-set_other}
use Rattle.codes.specs.CharacterMap.{clipped}
use Rattle.cmap_subtables.specs.Format12.{glyph_along, group_glyph, groups_of, holds}
use Rattle.cmap_subtables.specs.Format4.{segment_glyph}
use Rattle.font_map.specs.Inside.{IsFirstFree, IsLaid}
use Rattle.cmap_subtables.proofs.GroupLemmas.{glyph_by_find, holds_yes}
use Rattle.codes.proofs.PieceLemmas.{clipped_none}
use Rattle.cmap_subtables.proofs.SegmentLemmas.{glyph_above}
use Rattle.cmap_subtables.specs.declared.format12.ListedGroup.{ListedGroup}

-- the value at a place where the list was changed, or not
at_same : (xs : List ℕ) (i v : ℕ) → i < length xs → get_or (set xs i v) i 0 ≡ v
at_same xs i v h = get_or-set_same xs i v 0 h

at_other : (xs : List ℕ) (i c v : ℕ) → c ≢ i → get_or (set xs i v) c 0 ≡ get_or xs c 0
at_other xs i c v h = get_or-set_other xs i c v 0 h

abbrev Either : ℕ → ℕ → Type 0
Either a b = (a ≡ b) ⊎ (a ≢ b)

either : (a b : ℕ) → Either a b
either a b = elim (cases_lt a b) [
  | inl x ↦ inr (λ e. omega (arith, x, e))
  | inr x ↦ elim (cases_lt b a) [ inl y ↦ inr (λ e. omega (arith, y, e)) | inr y ↦ inl (omega (arith, x, y)) ]
]

-- a taken code stays taken
still_taken : (glyphs : List ℕ) (at v c : ℕ) → at < length glyphs → v ≢ 0xFFFF → get_or glyphs c 0 ≢ 0xFFFF
    → get_or (set glyphs at v) c 0 ≢ 0xFFFF
still_taken glyphs at v c low filled h = elim (either c at) [
  | inl q ↦ λ e. filled (sym (at_same glyphs at v low) ∙ subst (λ (x : ℕ). get_or (set glyphs at v) x 0 ≡ 0xFFFF) q e)
  | inr m ↦ λ e. h (sym (at_other glyphs at c v m) ∙ e)
]

-- what a group gives a code is not what stands at a free one
pub never_free : (n x at v : ℕ) → v ≡ clipped n (λ _. x) at → n < 65536 → v ≢ 0xFFFF
never_free n x at v is h e = grind (arith, nat_tests)

-- a code of the first group of the rest, which is free, gets its glyph
pub laid_code : (s : List ℕ) (n at v x : ℕ) (g : ListedGroup) (all rest : List ListedGroup) (glyphs : List ℕ)
    → all ≡ g ∷ rest → IsLaid s n all glyphs → at < length glyphs → v ≢ 0xFFFF → g.first ≤ at → at ≤ g.last
    → get_or glyphs at 0 ≡ 0xFFFF → v ≡ clipped n (λ _. x) at → x ≡ glyph_along g at → IsLaid s n all (set glyphs at v)
laid_code s n at v x g all rest glyphs next k low filled first last e is along =
    let yes : holds at g ≡ true = holds_yes g at first last in
    let front : find (holds at) (g ∷ rest) ≡ Some g = ap (λ (t : Bool). cond t (Some g) (find (holds at) rest)) yes in
    let found : find (holds at) (groups_of s) ≡ Some g = k.left at e
    ∙ ap (λ (gs : List ListedGroup). find (holds at) gs) next ∙ front in
    let gives : v ≡ clipped n (group_glyph s) at = is ∙ ap (λ (y : ℕ). clipped n (λ _. y) at) (along
    ∙ sym (glyph_by_find s at (Some g) found)) in
    let put : get_or (set glyphs at v) at 0 ≡ v = at_same glyphs at v low in
    record {
      taken = λ c t. elim (either c at) [
        | inl q ↦ subst (λ (y : ℕ). get_or (set glyphs at v) y 0 ≡ clipped n (group_glyph s) y) (sym q) (put ∙ gives)
        | inr m ↦ at_other glyphs at c v m ∙ k.taken c (λ f. t (at_other glyphs at c v m ∙ f))
      ];
      left = λ c f. elim (either c at) [
        | inl q ↦ absurd (filled (sym put ∙ subst (λ (x : ℕ). get_or (set glyphs at v) x 0 ≡ 0xFFFF) q f))
        | inr m ↦ k.left c (sym (at_other glyphs at c v m) ∙ f)
      ];
    }

-- the codes of a group are passed from its first one on
pub passed_on : (glyphs : List ℕ) (first stop at v next : ℕ) → at < length glyphs → v ≢ 0xFFFF
    → IsFirstFree glyphs first stop at → IsFirstFree (set glyphs at v) (at + 1) stop next
    → IsFirstFree (set glyphs at v) first stop next
passed_on glyphs first stop at v next low filled k f =
    record {
      from_on = omega (arith, k.from_on, f.from_on);
      passed = λ c x y. elim (cases_lt at c) [
        | inl z ↦ f.passed c (omega (arith, z)) y
        | inr z ↦ elim (cases_lt c at) [
          | inl w ↦ still_taken glyphs at v c low filled (k.passed c x w)
          | inr w ↦ λ e. filled (sym (at_same glyphs at v low)
              ∙ subst (λ (x : ℕ). get_or (set glyphs at v) x 0 ≡ 0xFFFF) (let q : c ≡ at = omega (arith, z, w) in q) e)
        ]
      ];
      free = f.free;
    }

-- when no group is left, taken codes have their glyphs, and no group has a free one
pub laid_all : (s : List ℕ) (n : ℕ) (rest : List ListedGroup) (glyphs new : List ℕ) → IsLaid s n rest glyphs → rest ≡ []
    → ((c : ℕ) → get_or glyphs c 0 ≡ 0xFFFF → get_or new c 0 ≡ 0) → ((c : ℕ) → get_or glyphs c 0 ≢ 0xFFFF
    → get_or new c 0 ≡ get_or glyphs c 0) → (c : ℕ) → get_or new c 0 ≡ clipped n (group_glyph s) c
laid_all s n rest glyphs new k e free taken c =
    elim (either (get_or glyphs c 0) 0xFFFF) [
      | inl f ↦ free c f
          ∙ sym (clipped_none n (group_glyph s) c (glyph_by_find s c None (k.left c f
          ∙ ap (λ (gs : List ListedGroup). find (holds c) gs) e)))
      | inr t ↦ taken c t ∙ k.taken c t
    ]

-- segments, code by code
pub laid_segments : (s : List ℕ) (n code : ℕ) (glyphs : List ℕ) → 0xFFFF < code
    → ((c : ℕ) → c < code → get_or glyphs c 0 ≡ clipped n (segment_glyph s) c)
    → ((c : ℕ) → code ≤ c → get_or glyphs c 0 ≡ 0) → (c : ℕ) → get_or glyphs c 0 ≡ clipped n (segment_glyph s) c
laid_segments s n code glyphs high done rest c =
    elim (cases_lt c code) [
      | inl x ↦ done c x
      | inr x ↦ rest c x ∙ sym (clipped_none n (segment_glyph s) c (glyph_above s c (omega (arith, high, x))))
    ]
