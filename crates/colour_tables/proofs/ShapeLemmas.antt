-- A shape that is written is read back.
use Rattle.std.proofs.Common.{◌≡◌, ℕ, suc, ◌+◌, ◌-◌, ◌*◌, ◌/◌, ◌%◌, ◌<◌, ◌≤◌, cond, eqb}
use Rattle.std.proofs.Common.{List, [], ◌∷◌, ◌++◌, length, get_or, take, drop, replicate, None, Some, slice_get}
use Rattle.std.proofs.Common.{refl, ap, sym, subst, ◌∙◌, arith, append_assoc, length-append}
use Rattle.std.proofs.lemmas.List.{drop-drop, get_or-drop, length-drop, length-take-le}
use Rattle.std.proofs.Math.Seq.{drop-append-add, drop-append_seam, take-append_seam}
use Rattle.std.proofs.lemmas.Bool.{ne_eqb}
use Rattle.std.proofs.lemmas.Option.{same_Some}
use Rattle.sfnt_bytes.specs.Number.{u16_at}
use Rattle.colour_tables.specs.MadePaints.{shape_bytes}
use Rattle.colour_tables.specs.Paints.{layer_links, paint_shapes, place_from, rest_of, shape_of, shape_size, u24_at}
use Rattle.colour_tables.specs.declared.shape.Kind.{Kind}
use Rattle.colour_tables.specs.declared.shape.Kind.TheVariants.{Affine, ClipBox, ColorLine, Paint}
use Rattle.colour_tables.specs.declared.shape.Shape.{Shape}
use Rattle.colour_tables.specs.declared.shape.Shape.TheVariants.{Layers, One, Plain, Two}

-- a number of three bytes
pub triple : (n : ℕ) → n / 65536 * 65536 + n / 256 % 256 * 256 + n % 256 ≡ n
triple n = omega arith

-- how many bytes a shape has but for its first and for offsets
abbrev pub rest_count : Shape → ℕ
rest_count (Plain more) = more
rest_count (One more k) = more
rest_count (Two more k l) = more
rest_count Layers = 1

pub shape-long : (s : Shape) (first : ℕ) (rest : List ℕ) (size index : ℕ) → length rest ≡ rest_count s
    → length (shape_bytes s first rest size index) ≡ shape_size s
shape-long (Plain more) first rest size index e = omega (arith, e)
shape-long (One more k) first rest size index e = omega (arith, e)
shape-long (Two more k l) first rest size index e =
    let offset : List ℕ = (7 + more + size) / 65536 ∷ (7 + more + size) / 256 % 256 ∷ (7 + more + size) % 256 ∷ [] in
    omega (arith, e, length-append rest offset)
shape-long Layers first rest size index e =
    let offset : List ℕ =
    index / 16777216 ∷ index / 65536 % 256 ∷ index / 256 % 256 ∷ index % 256 ∷ [] in
    omega (arith, e, length-append rest offset)

pub first-is : (s : Shape) (first : ℕ) (rest : List ℕ) (size index : ℕ) (z : List ℕ)
    → get_or (shape_bytes s first rest size index ++ z) 0 0 ≡ first
first-is (Plain more) first rest size index z = refl
first-is (One more k) first rest size index z = refl
first-is (Two more k l) first rest size index z = refl
first-is Layers first rest size index z = refl

take_front : (n : ℕ) (xs ys : List ℕ) → length xs ≡ n → take n (xs ++ ys) ≡ xs
take_front n xs ys e = ap (λ (k : ℕ). take k (xs ++ ys)) (sym e) ∙ take-append_seam xs ys

pub rest-is : (s : Shape) (first : ℕ) (rest : List ℕ) (size index : ℕ) (z : List ℕ) → length rest ≡ rest_count s
    → rest_of s (shape_bytes s first rest size index ++ z) ≡ rest
rest-is (Plain more) first rest size index z e = take_front more rest z e
rest-is (One more k) first rest size index z e = take_front more rest z e
rest-is (Two more k l) first rest size index z e =
    let offset : List ℕ = (7 + more + size) / 65536 ∷ (7 + more + size) / 256 % 256 ∷ (7 + more + size) % 256 ∷ [] in
    ap (take more) (append_assoc rest offset z) ∙ take_front more rest (offset ++ z) e
rest-is Layers first rest size index z e =
    let offset : List ℕ =
    index / 16777216 ∷ index / 65536 % 256 ∷ index / 256 % 256 ∷ index % 256 ∷ [] in
    ap (take 1) (append_assoc rest offset z) ∙ take_front 1 rest (offset ++ z) e

-- the place that an offset leads to which is not 0
pub place-some : (at offset : ℕ) → 0 < offset → place_from at offset ≡ at + offset
place-some at offset some = ap (λ b. cond b 0 (at + offset)) (ne_eqb offset 0 (λ e. omega (arith, e, some)))

-- the first offset of a shape, and the second
pub first_offset : (first n : ℕ) (z : List ℕ)
    → u24_at (first ∷ n / 65536 ∷ n / 256 % 256 ∷ n % 256 ∷ z) 1 ≡ n
unfolding u24_at
first_offset first n z = triple n

u24-drop : (k : ℕ) (b : List ℕ) → u24_at (drop k b) 0 ≡ u24_at b k
unfolding u24_at
u24-drop k b =
    let none : k + 0 ≡ k = omega arith in
    let first = get_or-drop k b 0 0 ∙ ap (λ (i : ℕ). get_or b i 0) none in
    let second = get_or-drop k b 1 0 in
    let third = get_or-drop k b 2 0 in
    λ i. first i * 65536 + second i * 256 + third i

u24-front : (n : ℕ) (z : List ℕ) → u24_at (n / 65536 ∷ n / 256 % 256 ∷ n % 256 ∷ z) 0 ≡ n
unfolding u24_at
u24-front n z = triple n

pub second_offset : (a b c d more n : ℕ) (rest z : List ℕ) → length rest ≡ more
    → u24_at (a ∷ b ∷ c ∷ d ∷ rest ++ (n / 65536 ∷ n / 256 % 256 ∷ n % 256 ∷ []) ++ z) (4 + more) ≡ n
second_offset a b c d more n rest z e =
    let offset : List ℕ = n / 65536 ∷ n / 256 % 256 ∷ n % 256 ∷ [] in
    let front : List ℕ = a ∷ b ∷ c ∷ d ∷ [] in
    sym (u24-drop (4 + more) (front ++ (rest ++ offset ++ z)))
    ∙ ap (λ (b : List ℕ). u24_at b 0)
    (drop-append-add front (rest ++ offset ++ z) more
    ∙ ap (drop more) (append_assoc rest offset z)
    ∙ ap (λ (k : ℕ). drop k (rest ++ (offset ++ z))) (sym e) ∙ drop-append_seam rest (offset ++ z))
    ∙ u24-front n z

-- places with what is there
abbrev pub placed : List ℕ → List Kind → List (ℕ × Kind)
placed ps [] = []
placed [] (k ∷ ks) = []
placed (p ∷ ps) (k ∷ ks) = (p, k) ∷ placed ps ks

-- layers from an index on are those that are listed there
pub layers-placed : (layers xs y : List ℕ) (index : ℕ) → drop index layers ≡ xs ++ y
    → layer_links layers index (length xs) ≡ placed xs (replicate (length xs) Paint)
layers-placed layers [] y index e = refl
layers-placed layers (x ∷ xs) y index e =
    let none : index + 0 ≡ index = omega arith in
    let here : get_or layers index 0 ≡ x =
    ap (λ (i : ℕ). get_or layers i 0) (sym none) ∙ sym (get_or-drop index layers 0 0)
    ∙ ap (λ (b : List ℕ). get_or b 0 0) e in
    let rest = layers-placed layers xs y (index + 1) (sym (drop-drop 1 index layers) ∙ ap (drop 1) e) in
    λ i. (here i, Paint) ∷ rest i

-- what a shape is read from
pub rest-long : (s : Shape) (b : List ℕ) → shape_size s ≤ length b → length (rest_of s b) ≡ rest_count s
rest-long (Plain more) b h = length-take-le more (drop 1 b) (omega (arith, h, length-drop 1 b))
rest-long (One more k) b h = length-take-le more (drop 4 b) (omega (arith, h, length-drop 4 b))
rest-long (Two more k l) b h = length-take-le more (drop 4 b) (omega (arith, h, length-drop 4 b))
rest-long Layers b h = length-take-le 1 (drop 1 b) (omega (arith, h, length-drop 1 b))

-- the count of stops stays
stops-same : (more less first : ℕ) (b z : List ℕ) → more ≡ suc (suc less) → 3 ≤ length b
    → u16_at (first ∷ take more (drop 1 b) ++ z) 1 ≡ u16_at b 1
unfolding u16_at
stops-same more less first [] z e h = absurd (omega (arith, h))
stops-same more less first (a ∷ []) z e h = absurd (omega (arith, h))
stops-same more less first (a ∷ c ∷ []) z e h = absurd (omega (arith, h))
stops-same more less first (a ∷ c ∷ d ∷ b) z e h =
    ap (λ (m : ℕ). get_or (first ∷ take m (c ∷ d ∷ b) ++ z) 1 0 * 256 + get_or (first ∷ take m (c ∷ d ∷ b) ++ z) 2 0) e

line-again : (stop : ℕ) (s : Shape) (b : List ℕ) (size index : ℕ) (z : List ℕ)
    → Some (Plain (2 + stop * u16_at b 1)) ≡ Some s → shape_size s ≤ length b
    → Some (Plain (2 + stop * u16_at (shape_bytes s (get_or b 0 0) (rest_of s b) size index ++ z) 1)) ≡ Some s
line-again stop s b size index z e h =
    let more = 2 + stop * u16_at b 1 in
    let is : Plain more ≡ s = same_Some (Plain more) s e in
    subst (λ (s : Shape). shape_size s ≤ length b
    → Some (Plain (2 + stop * u16_at (shape_bytes s (get_or b 0 0) (rest_of s b) size index ++ z) 1)) ≡ Some s) is
    (λ l. ap (λ (k : ℕ). Some (Plain (2 + stop * k)))
    (stops-same more (stop * u16_at b 1) (get_or b 0 0) b z (omega arith) (omega (arith, l)))) h

-- a shape is read again from its bytes
pub shape-again : (k : Kind) (s : Shape) (b : List ℕ) (size index : ℕ) (z : List ℕ) → shape_of k b ≡ Some s
    → shape_size s ≤ length b
    → shape_of k (shape_bytes s (get_or b 0 0) (rest_of s b) size index ++ z) ≡ Some s
shape-again Paint s b size index z e h =
    ap (λ (f : ℕ). cond (eqb f 0) None (slice_get paint_shapes (f - 1)))
    (first-is s (get_or b 0 0) (rest_of s b) size index z)
    ∙ e
shape-again (ColorLine stop) s b size index z e h = line-again stop s b size index z e h
shape-again (Affine more) s b size index z e h = e
shape-again ClipBox s b size index z e h =
    ap (λ (f : ℕ). cond (eqb f 1) (Some (Plain 8)) (cond (eqb f 2) (Some (Plain 12)) None))
    (first-is s (get_or b 0 0) (rest_of s b) size index z)
    ∙ e
