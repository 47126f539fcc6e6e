-- The segments of a subtable, as a list and by their places.
use Rattle.std.proofs.Common.{◌≡◌, ℕ, ◌+◌, ◌<◌, ◌≤◌, Bool, true, false, cond, nat_lt, List, [], ◌∷◌, length, drop, find}
use Rattle.std.proofs.Common.{get_or, Option, Some, None, MatchOption, sym, ap, subst, ◌∙◌, refl, arith, inl, inr}
use Rattle.std.proofs.lemmas.Bool.{cases_lt}
use Rattle.std.proofs.lemmas.Bool.Decides.{nat_tests}
use Rattle.std.proofs.lemmas.List.{drop_more, drop_all}
use Rattle.std.proofs.lemmas.List.FromFn.{length-map-range_with_len, get_or-map-range_with_len}
use Rattle.std.specs.Option.{option_map_or}
use Rattle.codes.specs.CharacterMap.{IsUnmapped, clipped}
use Rattle.codes.specs.Order.{Ascends, IsFirstReaching}
use Rattle.cmap_subtables.specs.Inside.{glyph_by_delta, glyph_of_segment, segment_end, segment_nth}
use Rattle.codes.specs.Runs.{IsPiece, NoRun}
use Rattle.cmap_subtables.specs.Format4.{HasOrderedSegments, glyph_by, reaches, segment_count, segment_glyph}
use Rattle.cmap_subtables.specs.Format4.{segment_in, segments_of}
use Rattle.cmap_subtables.specs.declared.format4.Segment.{Segment}
use Rattle.codes.specs.declared.runs.Run.{Run}
use Rattle.codes.proofs.PieceLemmas.{clipped_none}
use Rattle.codes.proofs.OrderLemmas.{find_at, find_narrower, find_narrower_none, find_none, in_order_ascends}

abbrev none : Segment
none = record { first = 0; last = 0; delta = 0; offset = 0; place = 0 }

pub length-segments_of : (s : List ℕ) → length (segments_of s) ≡ segment_count s
unfolding segments_of
length-segments_of s = length-map-range_with_len (segment_in s) 0 (segment_count s)

pub segment_is : (s : List ℕ) (i : ℕ) → i < segment_count s → segment_nth (segments_of s) i ≡ segment_in s i
unfolding segments_of
segment_is s i h = get_or-map-range_with_len (segment_in s) 0 (segment_count s) i i none h (omega arith)

-- what is left from a place on
pub segments_step : (s : List ℕ) (i : ℕ) → i < segment_count s → drop i (segments_of s) ≡ segment_nth (segments_of s) i
    ∷ drop (i + 1) (segments_of s)
segments_step s i h = drop_more (segments_of s) i none (omega (arith, h, length-segments_of s))

pub segments_end : (s : List ℕ) (i : ℕ) → segment_count s ≤ i → drop i (segments_of s) ≡ []
segments_end s i h = drop_all i (segments_of s) (omega (arith, h, length-segments_of s))

-- the ends of members in order ascend
pub segment_ascends : (s : List ℕ) → HasOrderedSegments s → Ascends (segment_end s) (segment_count s)
segment_ascends s o = in_order_ascends (λ g. g.first) (λ g. g.last) none (segments_of s) (segment_count s)
    (length-segments_of s) o

-- tests
reaches_yes : (g : Segment) (c : ℕ) → c ≤ g.last → reaches c g ≡ true
reaches_yes g c h = grind (arith, nat_tests)

reaches_no : (g : Segment) (c : ℕ) → g.last < c → reaches c g ≡ false
reaches_no g c h = grind (arith, nat_tests)

reaches_further : (from c : ℕ) → from ≤ c → (g : Segment) → reaches from g ≡ false → reaches c g ≡ false
reaches_further from c l g h = grind (arith, nat_tests)

-- the segment at the place of a code
pub none_past : (s : List ℕ) (c i : ℕ) → IsFirstReaching (segment_end s) (segment_count s) c i → segment_count s ≤ i
    → None ≡ find (reaches c) (segments_of s)
none_past s c i p h =
    sym (find_none (reaches c) none (segments_of s) (λ k x. reaches_no (get_or (segments_of s) k none) c
    (p.before k (omega (arith, h, x, length-segments_of s)))))

pub some_at : (s : List ℕ) (c i : ℕ) (g : Segment) → IsFirstReaching (segment_end s) (segment_count s) c i
    → i < segment_count s → g ≡ segment_nth (segments_of s) i → Some g ≡ find (reaches c) (segments_of s)
some_at s c i g p h e =
    ap (λ (x : Segment). Some x) e
    ∙ sym (find_at (reaches c) none (segments_of s) i (omega (arith, h, length-segments_of s))
    (reaches_yes (segment_nth (segments_of s) i) c (p.here h))
    (λ k z. reaches_no (get_or (segments_of s) k none) c (p.before k z)))

-- what a search finds is what the subtable gives
glyph_by_find : (s : List ℕ) (c : ℕ) (o : Option Segment) → c < 65536 → find (reaches c) (segments_of s) ≡ o
    → segment_glyph s c ≡ option_map_or (λ g. glyph_by s g c) o 0
unfolding segment_glyph
glyph_by_find s c o h e =
    let low : nat_lt 0xFFFF c ≡ false = grind (arith, nat_tests) in
    rw low (ap (λ (x : Option Segment). option_map_or (λ g. glyph_by s g c) x 0) e)

pub glyph_above : (s : List ℕ) (c : ℕ) → 0xFFFF < c → segment_glyph s c ≡ 0
unfolding segment_glyph
glyph_above s c h = let high : nat_lt 0xFFFF c ≡ true = grind (arith, nat_tests) in rw high refl

-- the first segment that ends at a code or above it alone decides all codes from there to its end
pub segment_same : (s : List ℕ) (from stop : ℕ) (g : Segment) → g.last < 65536 → stop ≤ g.last + 1
    → find (reaches from) (segments_of s) ≡ Some g → (c : ℕ) → from ≤ c → c < stop
    → segment_glyph s c ≡ glyph_of_segment s g c
segment_same s from stop g small end e c a b =
    let yes : reaches c g ≡ true = reaches_yes g c (omega arith) in
    let is : find (reaches c) (segments_of s) ≡ Some g =
    find_narrower (reaches from) (reaches c) (segments_of s) g e (reaches_further from c a) yes in
    glyph_by_find s c (Some g) (omega arith) is ∙ sym (ap (λ (b : Bool). cond b (glyph_by s g c) 0) yes)

-- and where there is none, no code is mapped
pub segments_none : (s : List ℕ) (from : ℕ) → find (reaches from) (segments_of s) ≡ None → (c : ℕ) → from ≤ c
    → segment_glyph s c ≡ 0
segments_none s from e c a =
    elim (cases_lt 0xFFFF c) [
      | inl h ↦ glyph_above s c h
      | inr h ↦ glyph_by_find s c None (omega arith) (find_narrower_none (reaches from) (reaches c) (segments_of s) e
          (reaches_further from c a))
    ]

-- up to its end it gives what it alone gives
pub segment_gives : (s : List ℕ) (g : Segment) (n c x : ℕ) → c ≤ g.last → x ≡ clipped n (λ _. glyph_by s g c) c
    → x ≡ clipped n (glyph_of_segment s g) c
segment_gives s g n c x h e =
    e ∙ ap (λ (y : ℕ). clipped n (λ _. y) c) (sym (ap (λ (b : Bool). cond b (glyph_by s g c) 0) (reaches_yes g c h)))

-- a code in front of others is a piece
pub piece_of_code : (m : ℕ → ℕ) (from code glyph : ℕ) → from ≤ code → IsUnmapped m from code → code ≤ 0x10FFFF
    → 0 < glyph → glyph < 65536 → glyph ≡ m code → IsPiece m from (record { first = code; last = code; glyph = glyph })
piece_of_code m from code glyph on none within mapped small is =
    record {
      from_on = on;
      least = none;
      order = omega arith;
      within = within;
      mapped = mapped;
      small = omega arith;
      along = λ c x y. let same : c ≡ code = omega arith in omega (arith, ap m same, is, same);
    }

-- past its end a segment alone maps nothing
pub segment_ends : (s : List ℕ) (g : Segment) (stop c : ℕ) → g.last < stop → stop ≤ c → glyph_of_segment s g c ≡ 0
segment_ends s g stop c end h = ap (λ (b : Bool). cond b (glyph_by s g c) 0) (reaches_no g c (omega arith))

-- a segment without offset goes by its delta
delta_at : (s : List ℕ) (g : Segment) (c : ℕ) → g.offset ≡ 0 → glyph_by_delta g c ≡ glyph_of_segment s g c
unfolding glyph_by
delta_at s g c z = grind (arith, nat_tests)

pub clip_by_delta : (s : List ℕ) (g : Segment) (n from : ℕ) (r : Option Run) → g.offset ≡ 0
    → MatchOption r (NoRun (clipped n (glyph_by_delta g)) from) (IsPiece (clipped n (glyph_by_delta g)) from)
    → MatchOption r (NoRun (clipped n (glyph_of_segment s g)) from) (IsPiece (clipped n (glyph_of_segment s g)) from)
clip_by_delta s g n from r z p =
    let same : glyph_by_delta g ≡ glyph_of_segment s g = λ i c. delta_at s g c z i in
    subst (λ (f : ℕ → ℕ). MatchOption r (NoRun (clipped n f) from) (IsPiece (clipped n f) from)) same p

-- no code above 0xFFFF is mapped
pub none_above : (s : List ℕ) (n from : ℕ) → 0xFFFF < from → NoRun (clipped n (segment_glyph s)) from
none_above s n from h c x = clipped_none n (segment_glyph s) c (glyph_above s c (omega (arith, h, x)))

pub none_from : (s : List ℕ) (n from at : ℕ) → 0xFFFF < at → IsUnmapped (clipped n (segment_glyph s)) from at → NoRun
    (clipped n (segment_glyph s)) from
none_from s n from at h none c x = elim (cases_lt c at) [ inl y ↦ none c x y | inr y ↦ none_above s n at h c y ]
