-- Pieces of one map that are pieces of another.
use Rattle.std.proofs.Common.{◌≡◌, ℕ, ◌+◌, ◌<◌, ◌≤◌, ◌&&◌, cond, nat_lt, nat_le, Option, Some, None, MatchOption}
use Rattle.std.proofs.Common.{IfSome, subst, ap, ◌∙◌, arith, inl, inr}
use Rattle.std.proofs.lemmas.Bool.{cases_lt}
use Rattle.std.proofs.lemmas.Bool.Decides.{nat_tests}
use Rattle.codes.specs.CharacterMap.{AreSame, IsUnmapped, clipped}
use Rattle.codes.specs.Runs.{IsPiece, NoRun}
use Rattle.codes.specs.declared.runs.Run.{Run}

pub clipped_none : (n : ℕ) (f : ℕ → ℕ) (c : ℕ) → f c ≡ 0 → clipped n f c ≡ 0
clipped_none n f c h = grind (arith, nat_tests)

pub clipped_past : (n : ℕ) (f : ℕ → ℕ) (c : ℕ) → 0x110000 ≤ c → clipped n f c ≡ 0
clipped_past n f c h = grind (arith, nat_tests)

clipped_same : (n : ℕ) (f g : ℕ → ℕ) (c : ℕ) → f c ≡ g c → clipped n f c ≡ clipped n g c
clipped_same n f g c h = ap (λ (x : ℕ). cond (nat_lt x n && nat_le c 0x10FFFF) x 0) h

-- a piece ends before the codes that are not mapped
ends_before : (m : ℕ → ℕ) (from stop : ℕ) (run : Run) → NoRun m stop → IsPiece m from run → run.last < stop
ends_before m from stop run none p =
    elim (cases_lt run.last stop) [
      | inl x ↦ x
      | inr x ↦ absurd (omega (arith, none run.last x, p.along run.last p.order (omega arith), p.mapped, p.order))
    ]

-- a piece of a map is one of a map that is the same up to a stop, where the first one ends there
piece_same : (m k : ℕ → ℕ) (from stop : ℕ) (run : Run) → AreSame m k from stop → NoRun k stop → IsPiece k from run
    → IsPiece m from run
piece_same m k from stop run same none p =
    let end : run.last < stop = ends_before k from stop run none p in
    record {
      from_on = p.from_on;
      least = λ c x y. same c x (omega (arith, y, p.order, end)) ∙ p.least c x y;
      order = p.order;
      within = p.within;
      mapped = p.mapped;
      small = p.small;
      along = λ c x y. ap (λ (z : ℕ). z + run.first) (same c (omega (arith, x, p.from_on)) (omega (arith, y, end)))
          ∙ p.along c x y;
    }

-- what was looked for in one map is found in the other
pub stretch_same : (n : ℕ) (f g : ℕ → ℕ) (from stop : ℕ) (r : Option Run) → AreSame f g from stop → NoRun g stop
    → MatchOption r (NoRun (clipped n g) from) (IsPiece (clipped n g) from)
    → MatchOption r (IsUnmapped (clipped n f) from stop) (IsPiece (clipped n f) from)
stretch_same n f g from stop None same none p = λ c x y. clipped_same n f g c (same c x y) ∙ p c x
stretch_same n f g from stop (Some run) same none p =
    piece_same (clipped n f) (clipped n g) from stop run (λ c x y. clipped_same n f g c (same c x y))
    (λ c x. clipped_none n g c (none c x)) p

pub stretch_none : (n : ℕ) (f : ℕ → ℕ) (from stop : ℕ) → IsUnmapped f from stop → IsUnmapped (clipped n f) from stop
stretch_none n f from stop h c x y = clipped_none n f c (h c x y)

-- what holds of a found one
pub holds_of : {X : Type 0} (P : X → Type 0) (found : Option X) (x : X) → found ≡ Some x → IfSome found P → P x
holds_of {X = X} P found x e h = subst (λ (o : Option X). IfSome o P) e h
