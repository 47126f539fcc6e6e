-- How outlines and their offsets grow, glyph by glyph.
use Rattle.std.proofs.Common.{◌≡◌, ℕ, zero, suc, ◌+◌, ◌-◌, ◌*◌, ◌%◌, ◌^◌, ◌<◌, ◌≤◌, List, [], ◌∷◌, ◌++◌, length, Option}
use Rattle.std.proofs.Common.{None, sym, ap, ◌∙◌, refl, arith, length-append, append_assoc, flat_map}
use Rattle.std.specs.List.{concat}
use Rattle.std.specs.Option.{unwrap_or}
use Rattle.std.proofs.lemmas.List.{append-nil, length-replicate}
use Rattle.std.proofs.lemmas.List.Folds.{concat-append}
use Rattle.std.proofs.lemmas.Grind.{flat_map-append}
use Rattle.font_glyph.specs.RecordMap.{record_in}
use Rattle.font_theory.specs.Bytes.{bytes32}
use Rattle.font_theory.specs.Content.{Content}
use Rattle.font_theory.specs.File.{Writing, behind, loca_bytes, offsets_from, outlines_from}
use Rattle.sfnt_bytes.specs.Sums.{checksum_of}
use Rattle.font_theory.proofs.SumLemmas.{checksum_of-append}
use Rattle.font_write.specs.Parts.{IsNextKept, glyf_to}
use Rattle.font_write.specs.Inside.{IsWalk, all_outlines, glyf_in, loca_to}
use Rattle.font_write.specs.declared.made_loca.Walk.{Walk}
use Rattle.font_write.proofs.ChecksumLemmas.{checksum_of-bytes32, checksum_of-small}
use Rattle.font_write.proofs.PartLemmas.{within}

outlines-split : (K : Content) (k n m : ℕ) → outlines_from K k (n + m) ≡ outlines_from K k n
    ++ outlines_from K (k + n) m
outlines-split K k zero m = let a : 0 + m ≡ m = omega arith in let b : k ≡ k + 0 = omega arith in
    λ i. outlines_from K (b i) (a i)
outlines-split K k (suc n) m =
    let a : suc n + m ≡ suc (n + m) = omega arith in
    let b : k + 1 + n ≡ k + suc n = omega arith in
    ap (outlines_from K k) a
    ∙ ap (λ (l : List (List ℕ)). record_in K.outline k ∷ l) (outlines-split K (k + 1) n m
    ∙ ap (λ (j : ℕ). outlines_from K (k + 1) n ++ outlines_from K j m) b)

outlines-more : (K : Content) (n : ℕ) → outlines_from K 0 (n + 1) ≡ outlines_from K 0 n ++ record_in K.outline n ∷ []
outlines-more K n = let z : 0 + n ≡ n = omega arith in outlines-split K 0 n 1
    ∙ ap (λ (k : ℕ). outlines_from K 0 n ++ record_in K.outline k ∷ []) z

pub glyf_start : (K : Content) → glyf_to K 0 ≡ []
unfolding glyf_to
glyf_start K = refl

pub glyf_more : (K : Content) (n : ℕ) → glyf_to K (n + 1) ≡ glyf_to K n ++ record_in K.outline n
unfolding glyf_to
glyf_more K n =
    ap concat (outlines-more K n) ∙ concat-append (outlines_from K 0 n) (record_in K.outline n ∷ [])
    ∙ ap (λ (b : List ℕ). concat (outlines_from K 0 n) ++ b) (append-nil (record_in K.outline n))

-- the offsets with one more outline
offsets-more : (at : ℕ) (bs : List (List ℕ)) (b : List ℕ) → offsets_from at (bs ++ b ∷ []) ≡ offsets_from at bs
    ++ (at + length (concat (bs ++ b ∷ []))) ∷ []
offsets-more at [] b = let e : length b ≡ length (b ++ []) = sym (ap length (append-nil b)) in λ i. at ∷ (at + e i) ∷ []
offsets-more at (x ∷ bs) b =
    let e : at + length x + length (concat (bs ++ b ∷ [])) ≡ at + length (x ++ concat (bs ++ b ∷ [])) =
    omega (arith, length-append x (concat (bs ++ b ∷ []))) in
    ap (λ (t : List ℕ). at ∷ t) (offsets-more (at + length x) bs b
    ∙ ap (λ (k : ℕ). offsets_from (at + length x) bs ++ k ∷ []) e)

pub loca_start : (K : Content) → loca_to K 0 ≡ bytes32 0
unfolding loca_to loca_bytes
loca_start K = refl

pub loca_more : (K : Content) (n : ℕ) → loca_to K (n + 1) ≡ loca_to K n ++ bytes32 (length (glyf_to K (n + 1)))
unfolding loca_to loca_bytes glyf_to
loca_more K n =
    let bs = outlines_from K 0 n in
    let more = bs ++ record_in K.outline n ∷ [] in
    let z : 0 + length (concat more) ≡ length (concat more) = omega arith in
    ap (λ (l : List (List ℕ)). flat_map bytes32 (offsets_from 0 l)) (outlines-more K n)
    ∙ ap (flat_map bytes32) (offsets-more 0 bs (record_in K.outline n) ∙ ap (λ (k : ℕ). offsets_from 0 bs ++ k ∷ []) z)
    ∙ flat_map-append bytes32 (offsets_from 0 bs) (length (concat more) ∷ [])
    ∙ (λ i. flat_map bytes32 (offsets_from 0 bs) ++ bytes32 (length (concat (sym (outlines-more K n) i))))

glyf_front : (K : Content) (n m : ℕ) → (rest : List ℕ) × (glyf_to K n ++ rest ≡ glyf_to K (n + m))
unfolding glyf_to
glyf_front K n m = (
  concat (outlines_from K (0 + n) m),
  sym (ap concat (outlines-split K 0 n m)
      ∙ concat-append (outlines_from K 0 n) (outlines_from K (0 + n) m)),
)

loca_front : (K : Content) (n m : ℕ) → (rest : List ℕ) × (loca_to K n ++ rest ≡ loca_to K (n + m))
loca_front K n zero = let e : n ≡ n + 0 = omega arith in ([], append-nil (loca_to K n) ∙ ap (loca_to K) e)
loca_front K n (suc m) =
    let k = loca_front K n m in
    let w = bytes32 (length (glyf_to K (n + m + 1))) in
    let e : n + m + 1 ≡ n + suc m = omega arith in (
      k.0 ++ w,
      sym (append_assoc (loca_to K n) k.0 w) ∙ ap (λ (t : List ℕ). t ++ w) k.1 ∙ sym (loca_more K (n + m))
          ∙ ap (loca_to K) e,
    )

pub length_loca : (K : Content) (n : ℕ) → length (loca_to K n) ≡ 4 * n + 4
length_loca K zero = ap length (loca_start K)
length_loca K (suc n) =
    let e : n + 1 ≡ suc n = omega arith in
    let w = bytes32 (length (glyf_to K (n + 1))) in
    let s : length (loca_to K (suc n)) ≡ length (loca_to K n ++ w) = ap (λ (k : ℕ). length (loca_to K k)) (sym e)
    ∙ ap length (loca_more K n) in
    omega (arith, s, length-append (loca_to K n) w, length_loca K n)

-- the outline of a glyph stands within all of them
pub glyf_within : (K : Content) (g n : ℕ) → g < n → (rest : List ℕ)
    × (glyf_to K g ++ (record_in K.outline g ++ rest) ≡ glyf_to K n)
glyf_within K g n lt = within (glyf_to K) (record_in K.outline g) g n lt (glyf_more K g) (glyf_front K)

-- the offsets after some glyphs stand within all of them
pub loca_within_all : (K : Content) (g n : ℕ) (chunk : List ℕ) (from : ℕ) → g ≤ n
    → loca_to K from ++ chunk ≡ loca_to K g → (rest : List ℕ) × (loca_to K from ++ (chunk ++ rest) ≡ loca_to K n)
loca_within_all K g n chunk from le e =
    let f = loca_front K g (n - g) in
    let all : g + (n - g) ≡ n = omega arith in
    (f.0, sym (append_assoc (loca_to K from) chunk f.0) ∙ ap (λ (t : List ℕ). t ++ f.0) e ∙ f.1 ∙ ap (loca_to K) all)

pub loca_first : (K : Content) (n : ℕ) → (rest : List ℕ) × (bytes32 0 ++ rest ≡ loca_to K n)
loca_first K n =
    let f = loca_front K 0 n in
    let z : 0 + n ≡ n = omega arith in
    (f.0, ap (λ (t : List ℕ). t ++ f.0) (sym (loca_start K)) ∙ f.1 ∙ ap (loca_to K) z)

pub length-glyf_in : (writing : Writing) (K : Content) → length (glyf_in writing K) ≡ length (all_outlines K)
    + writing.zeros (length (all_outlines K))
length-glyf_in writing K = omega (
  arith,
  length-append (all_outlines K) (behind writing (all_outlines K)),
  length-replicate {A = ℕ} (writing.zeros (length (all_outlines K))) 0,
)

-- glyphs that are not kept have no outlines
glyf_pass : (K : Content) (a n : ℕ) → ((h : ℕ) → a ≤ h → h < a + n → K.outline h ≡ None)
    → glyf_to K (a + n) ≡ glyf_to K a
glyf_pass K a zero none = let e : a + 0 ≡ a = omega arith in ap (glyf_to K) e
glyf_pass K a (suc n) none =
    let e : a + suc n ≡ a + n + 1 = omega arith in
    let last : record_in K.outline (a + n) ≡ [] =
    ap (λ (o : Option (List ℕ)). unwrap_or o []) (none (a + n) (omega arith) (omega arith)) in
    ap (glyf_to K) e ∙ glyf_more K (a + n) ∙ ap (λ (b : List ℕ). glyf_to K (a + n) ++ b) last
    ∙ append-nil (glyf_to K (a + n))
    ∙ glyf_pass K a n (λ h from to. none h from (omega arith))

pub glyf_next : (K : Content) (from g : ℕ) → IsNextKept K from g → glyf_to K g ≡ glyf_to K from
glyf_next K from g next =
    let e : from + (g - from) ≡ g = omega (arith, next.from_on) in
    ap (glyf_to K) (sym e) ∙ glyf_pass K from (g - from) (λ h a b. next.passed h a (omega (arith, b, next.from_on)))

-- one offset stands for a kept glyph and for all up to the next one
loca_sum_pass : (K : Content) (a n x : ℕ) → x ≡ length (glyf_to K a)
    → ((h : ℕ) → a ≤ h → h < a + n → K.outline h ≡ None)
    → checksum_of (loca_to K (a + n)) ≡ (checksum_of (loca_to K a) + n * x) % 2 ^ 32
loca_sum_pass K a zero x e none =
    let z : a + 0 ≡ a = omega arith in
    omega (arith, ap (λ (k : ℕ). checksum_of (loca_to K k)) z, checksum_of-small (loca_to K a))
loca_sum_pass K a (suc n) x e none =
    let z : a + suc n ≡ a + n + 1 = omega arith in
    let less : (h : ℕ) → a ≤ h → h < a + n → K.outline h ≡ None = λ h from to. none h from (omega arith) in
    let before = loca_sum_pass K a n x e less in
    let same : length (glyf_to K (a + suc n)) ≡ x = ap length (glyf_pass K a (suc n) none) ∙ sym e in
    let word = length (glyf_to K (a + n + 1)) in
    let is : word ≡ x = ap (λ (k : ℕ). length (glyf_to K k)) (sym z) ∙ same in
    let more = ap checksum_of (loca_more K (a + n)) ∙ checksum_of-append (loca_to K (a + n)) (bytes32 word)
    (omega (arith, length_loca K (a + n))) in
    let whole : checksum_of (loca_to K (a + suc n)) ≡ checksum_of (loca_to K (a + n + 1)) =
    ap (λ (k : ℕ). checksum_of (loca_to K k)) z in
    let product : suc n * x ≡ n * x + x = omega arith in
    omega (arith, whole, more, before, checksum_of-bytes32 word, is, product)

pub loca_sum_next : (K : Content) (g next x : ℕ) → x ≡ length (glyf_to K (g + 1)) → IsNextKept K (g + 1) next
    → checksum_of (loca_to K next) ≡ (checksum_of (loca_to K g) + (next - g) * x) % 2 ^ 32
loca_sum_next K g next x e is =
    let n = next - (g + 1) in
    let z : g + 1 + n ≡ next = omega (arith, is.from_on) in
    let pass = loca_sum_pass K (g + 1) n x e (λ h a b. is.passed h a (omega (arith, b, is.from_on))) in
    let whole : checksum_of (loca_to K (g + 1 + n)) ≡ checksum_of (loca_to K next) =
    ap (λ (k : ℕ). checksum_of (loca_to K k)) z in
    let word = length (glyf_to K (g + 1)) in
    let more = ap checksum_of (loca_more K g)
    ∙ checksum_of-append (loca_to K g) (bytes32 word) (omega (arith, length_loca K g)) in
    let count : next - g ≡ suc n = omega (arith, is.from_on) in
    let one : suc n * x ≡ n * x + x = omega arith in
    let product : (next - g) * x ≡ n * x + x = ap (λ (k : ℕ). k * x) count ∙ one in
    omega (arith, pass, whole, more, e, checksum_of-bytes32 word, product)

-- 0 stands for all glyphs up to the first kept one
pub loca_sum_first : (K : Content) (next : ℕ) → IsNextKept K 0 next → checksum_of (loca_to K next) ≡ 0
loca_sum_first K next is =
    let z : 0 + next ≡ next = omega arith in
    let pass = loca_sum_pass K 0 next 0 (sym (ap length (glyf_start K))) (λ h a b. is.passed h a (omega (arith, b))) in
    let whole : checksum_of (loca_to K (0 + next)) ≡ checksum_of (loca_to K next) =
    ap (λ (k : ℕ). checksum_of (loca_to K k)) z in
    let none : next * 0 ≡ 0 = omega arith in
    omega (arith, pass, whole, none, ap checksum_of (loca_start K), checksum_of-bytes32 0)

-- where a walk begins
pub walk_start : (K : Content) (next : ℕ) → IsNextKept K 0 next → IsWalk K 0 (record { offset = 0; next = next })
walk_start K next is = record { offset = sym (ap length (glyf_start K)); next = is }

-- a glyph that is not kept is passed
pub walk_passes : (K : Content) (g : ℕ) (walk : Walk) → g < walk.next → IsWalk K g walk → IsWalk K (g + 1) walk
walk_passes K g walk low is =
    let none : K.outline g ≡ None = is.next.passed g (omega arith) low in
    let last : record_in K.outline g ≡ [] = ap (λ (o : Option (List ℕ)). unwrap_or o []) none in
    let same : glyf_to K (g + 1) ≡ glyf_to K g = glyf_more K g ∙ ap (λ (b : List ℕ). glyf_to K g ++ b) last
    ∙ append-nil (glyf_to K g) in
    record {
      offset = is.offset ∙ sym (ap length same);
      next = record {
        from_on = omega (arith, low);
        within = is.next.within;
        passed = λ h a b. is.next.passed h (omega (arith, a)) b;
        kept = is.next.kept;
      };
    }
