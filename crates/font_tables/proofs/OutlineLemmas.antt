-- Outlines that stand end to end, and long offsets that lead to them. The data of a `gvar` that is made stand so too.
use Rattle.std.proofs.Common.{◌≡◌, ℕ, zero, suc, ◌+◌, ◌-◌, ◌<◌, ◌≤◌, false, ltb, List, [], ◌∷◌, ◌++◌, get_or}
use Rattle.std.proofs.Common.{take, drop, length, slice_range, refl, sym, ap, ◌∙◌, arith}
use Rattle.std.specs.List.{concat}
use Rattle.std.proofs.lemmas.Bool.{le-ltb, or_from}
use Rattle.std.proofs.lemmas.List.{append_assoc, drop-drop, drop_at, length-append, take_all, take_at}
use Rattle.font_tables.specs.Outlines.{falls, offset_at, outline_in}
use Rattle.font_tables.specs.declared.loca.LocaForm.TheVariants.{Long}
use Rattle.font_tables.proofs.OffsetLemmas.{falls_more, falls_none}

-- where outline i begins
abbrev pub start_of : ℕ → List (List ℕ) → ℕ
start_of i outlines = length (concat (take i outlines))

-- offsets lead to where outlines begin and end
abbrev pub LeadTo : List ℕ → List (List ℕ) → Type 0
LeadTo offsets outlines = (i : ℕ) → i ≤ length outlines → offset_at Long offsets i ≡ start_of i outlines

-- an outline stands between its offsets, whatever stands after the outlines
slice_of : (outlines : List (List ℕ)) (g : ℕ) (z : List ℕ) → g < length outlines
    → slice_range (concat outlines ++ z) (start_of g outlines) (start_of (g + 1) outlines) ≡ get_or outlines g []
slice_of [] g z inside = absurd (omega arith)
slice_of (outline ∷ others) zero z inside =
    let size : length (outline ++ []) - 0 ≡ length outline = omega (arith, length-append outline []) in
    ap (λ (n : ℕ). take n ((outline ++ concat others) ++ z)) size
    ∙ ap (take (length outline)) (append_assoc outline (concat others) z)
    ∙ take_at outline (concat others ++ z) (length outline) refl
slice_of (outline ∷ others) (suc g) z inside =
    let all = outline ∷ others in
    let one : start_of (suc g) all ≡ length outline + start_of g others =
    length-append outline (concat (take g others)) in
    let more : suc g + 1 ≡ suc (g + 1) = omega arith in
    let two : start_of (suc g + 1) all ≡ length outline + start_of (g + 1) others =
    ap (λ (k : ℕ). start_of k all) more ∙ length-append outline (concat (take (g + 1) others)) in
    let size : start_of (suc g + 1) all - start_of (suc g) all ≡ start_of (g + 1) others - start_of g others =
    omega arith in
    let rest = concat others ++ z in
    let cut : drop (start_of (suc g) all) ((outline ++ concat others) ++ z) ≡ drop (start_of g others) rest =
    (λ i. drop (one i) (append_assoc outline (concat others) z i))
    ∙ sym (drop-drop (start_of g others) (length outline) (outline ++ rest))
    ∙ ap (drop (start_of g others)) (drop_at outline rest (length outline) refl) in
    (λ i. take (size i) (cut i)) ∙ slice_of others g z (omega arith)

pub outline_in-led : (offsets : List ℕ) (outlines : List (List ℕ)) (z : List ℕ) (g : ℕ) → LeadTo offsets outlines
    → g < length outlines → outline_in Long offsets (concat outlines ++ z) g ≡ get_or outlines g []
outline_in-led offsets outlines z g lead inside =
    let low = lead g (omega arith) in
    let high = lead (g + 1) (omega arith) in
    (λ i. slice_range (concat outlines ++ z) (low i) (high i)) ∙ slice_of outlines g z inside

-- the last offset is the length of all outlines
pub last-led : (offsets : List ℕ) (outlines : List (List ℕ)) → LeadTo offsets outlines
    → offset_at Long offsets (length outlines) ≡ length (concat outlines)
last-led offsets outlines lead =
    lead (length outlines) (omega arith)
    ∙ ap (λ (l : List (List ℕ)). length (concat l)) (take_all (length outlines) outlines (omega arith))

-- the offsets do not fall
start_of-more : (outlines : List (List ℕ)) (i : ℕ) → start_of i outlines ≤ start_of (i + 1) outlines
start_of-more [] zero = omega arith
start_of-more [] (suc i) = omega arith
start_of-more (outline ∷ others) zero = omega arith
start_of-more (outline ∷ others) (suc i) =
    let more : suc i + 1 ≡ suc (i + 1) = omega arith in
    let same = ap (λ (k : ℕ). start_of k (outline ∷ others)) more in
    omega (
      arith,
      same,
      start_of-more others i,
      length-append outline (concat (take i others)),
      length-append outline (concat (take (i + 1) others)),
    )

pub falls-led : (offsets : List ℕ) (outlines : List (List ℕ)) (last : ℕ) → LeadTo offsets outlines
    → last ≤ length outlines → falls Long offsets last ≡ false
falls-led offsets outlines zero lead low = falls_none Long offsets
falls-led offsets outlines (suc last) lead low =
    let here = lead last (omega arith) in
    let next = lead (last + 1) (omega arith) in
    let up = start_of-more outlines last in
    let more : suc last ≡ last + 1 = omega arith in
    ap (falls Long offsets) more ∙ falls_more Long offsets last
    ∙ or_from (falls Long offsets last) (ltb (offset_at Long offsets (last + 1)) (offset_at Long offsets last))
    (falls-led offsets outlines last lead (omega arith)) (le-ltb _ _ (omega arith))
