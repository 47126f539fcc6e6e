-- How many codes are mapped, by pieces.
use Rattle.std.proofs.Common.{◌≡◌, ℕ, zero, suc, ◌+◌, ◌-◌, ◌<◌, ◌≤◌, cond, ◌∙◌, refl, arith}
use Rattle.std.specs.List.{range_with_len}
use Rattle.std.proofs.lemmas.List.Sums.{sum_by-cons}
use Rattle.std.proofs.lemmas.Bool.Decides.{nat_tests}
use Rattle.codes.specs.CharacterMap.{is_mapped, mapped_among}
use Rattle.codes.specs.Runs.{IsPiece, NoRun}
use Rattle.codes.specs.declared.runs.Run.{Run}

step : (m : ℕ → ℕ) (a n : ℕ) → mapped_among m a (suc n) ≡ cond (is_mapped m a) 1 0 + mapped_among m (a + 1) n
unfolding mapped_among
step m a n = sum_by-cons (λ c. cond (is_mapped m c) 1 0) a (range_with_len (a + 1) n)

step_none : (m : ℕ → ℕ) (a n : ℕ) → m a ≡ 0 → mapped_among m a (suc n) ≡ mapped_among m (a + 1) n
step_none m a n h = let no : ◌≡◌ {A = ℕ} (cond (is_mapped m a) 1 0) 0 = grind (arith, nat_tests) in
    omega (arith, step m a n, no)

step_one : (m : ℕ → ℕ) (a n : ℕ) → 0 < m a → mapped_among m a (suc n) ≡ 1 + mapped_among m (a + 1) n
step_one m a n h = let yes : ◌≡◌ {A = ℕ} (cond (is_mapped m a) 1 0) 1 = grind (arith, nat_tests) in
    omega (arith, step m a n, yes)

mapped_nothing : (m : ℕ → ℕ) (a : ℕ) → mapped_among m a 0 ≡ 0
unfolding mapped_among
mapped_nothing m a = refl

-- the same codes, written otherwise
moved : (m : ℕ → ℕ) (a b n k : ℕ) → a ≡ b → n ≡ k → mapped_among m a n ≡ mapped_among m b k
moved m a b n k p q = λ i. mapped_among m (p i) (q i)

-- codes that are not mapped
mapped_gap : (m : ℕ → ℕ) (a k n : ℕ) → ((c : ℕ) → a ≤ c → c < a + k → m c ≡ 0)
    → mapped_among m a (k + n) ≡ mapped_among m (a + k) n
mapped_gap m a zero n f = moved m a (a + 0) (0 + n) n (omega arith) (omega arith)
mapped_gap m a (suc k) n f =
    let more : mapped_among m a (suc k + n) ≡ mapped_among m a (suc (k + n)) =
    moved m a a (suc k + n) (suc (k + n)) refl (omega arith) in
    let there : mapped_among m (a + 1 + k) n ≡ mapped_among m (a + suc k) n =
    moved m (a + 1 + k) (a + suc k) n n (omega arith) refl in
    more
    ∙ step_none m a (k + n) (f a (omega arith) (omega arith))
    ∙ mapped_gap m (a + 1) k n (λ c x y. f c (omega (arith, x)) (omega (arith, y)))
    ∙ there

-- codes that are all mapped
mapped_all : (m : ℕ → ℕ) (a k n : ℕ) → ((c : ℕ) → a ≤ c → c < a + k → 0 < m c) → mapped_among m a (k + n) ≡ k
    + mapped_among m (a + k) n
mapped_all m a zero n f = let same : mapped_among m a (0 + n) ≡ mapped_among m (a + 0) n =
    moved m a (a + 0) (0 + n) n (omega arith) (omega arith) in omega (arith, same)
mapped_all m a (suc k) n f =
    let more : mapped_among m a (suc k + n) ≡ mapped_among m a (suc (k + n)) =
    moved m a a (suc k + n) (suc (k + n)) refl (omega arith) in
    let there : mapped_among m (a + 1 + k) n ≡ mapped_among m (a + suc k) n =
    moved m (a + 1 + k) (a + suc k) n n (omega arith) refl in
    let first = step_one m a (k + n) (f a (omega arith) (omega arith)) in
    let rest = mapped_all m (a + 1) k n (λ c x y. f c (omega (arith, x)) (omega (arith, y))) in
    omega (arith, more, first, rest, there)

-- a count of the codes before one, of n in all
pub record Counted (m : ℕ → ℕ) (count from n : ℕ) : Type 0 where
  pub told : count + mapped_among m from (n - from) ≡ mapped_among m 0 n
  pub within : from ≤ n
  pub few : count ≤ from

pub counted_start : (m : ℕ → ℕ) (n : ℕ) → Counted m 0 0 n
counted_start m n = record {
  told = let all = moved m 0 0 (n - 0) n refl (omega arith) in
      omega (arith, all);
  within = omega arith;
  few = omega arith;
}

-- a piece adds its codes
pub counted_on : (m : ℕ → ℕ) (count from n : ℕ) (run : Run) → n ≡ 0x110000 → Counted m count from n → IsPiece m from run
    → Counted m (count + (run.last - run.first + 1)) (run.last + 1) n
counted_on m count from n run e h p =
    let order = p.order in let on = p.from_on in
    let room : run.last + 1 ≤ n = omega (arith, p.within) in
    let gap = run.first - from in
    let size = run.last - run.first + 1 in
    let left = n - (run.last + 1) in
    let split : n - from ≡ gap + (size + left) = omega arith in
    let start : from + gap ≡ run.first = omega arith in
    let end : run.first + size ≡ run.last + 1 = omega arith in
    let before = mapped_gap m from gap (size + left) (λ c x y. p.least c x (omega (arith, y, start))) in
    let here = mapped_all m run.first size left (λ c x y. omega (
      arith,
      p.along c x (omega (arith, y, end)),
      p.mapped,
      x,
    )) in
    let a = moved m from from (n - from) (gap + (size + left)) refl split in
    let b = moved m (from + gap) run.first (size + left) (size + left) start refl in
    let d = moved m (run.first + size) (run.last + 1) left left end refl in
    record {
      told = omega (arith, h.told, a, before, b, here, d);
      within = room;
      few = omega (arith, h.few);
    }

-- and where no code is left that is mapped, the count is done
pub counted_end : (m : ℕ → ℕ) (count from n : ℕ) → Counted m count from n → NoRun m from → count ≡ mapped_among m 0 n
counted_end m count from n h none =
    let w = h.within in
    let a = moved m from from (n - from) (n - from + 0) refl (omega arith) in
    let gap = mapped_gap m from (n - from) 0 (λ c x y. none c x) in
    omega (arith, h.told, a, gap, mapped_nothing m (from + (n - from)))
