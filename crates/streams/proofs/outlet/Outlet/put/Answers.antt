use Rattle.std.proofs.Common.{◌≡◌, ℕ, ◌+◌, ◌-◌, ◌≤◌, List, ◌++◌, Option, length, take, drop, arith, rules, sym, ap}
use Rattle.std.proofs.Common.{subst, ◌∙◌, length-take-le, length-drop, length-take}
use Rattle.std.specs.Io.KnownBytes.{Appends}
use Rattle.std.proofs.KnownBytes.{Appends-trans}
use lib.Seq.{take-add, take-take}
use Rattle.streams.proofs.outlet.Outlet.put.Goals as goal

-- a second part of xs went out after the first
next_part : (a b c : Option (List ℕ)) (xs : List ℕ) (at n : ℕ) → n ≤ length xs - at → Appends a b (take at xs)
    → Appends b c (take n (take (length xs - at) (drop at xs))) → Appends a c (take (at + n) xs)
next_part a b c xs at n within first second =
    let joined : take at xs ++ take n (take (length xs - at) (drop at xs)) ≡ take (at + n) xs =
    ap (λ l. take at xs ++ l) (take-take n (length xs - at) (drop at xs) within) ∙ sym (take-add at n xs) in
    subst (Appends a c) joined (Appends-trans a b c _ _ first second)

pub loop-at-preserved : goal.loop-at-preserved
loop-at-preserved g c =
    let at = c.loop-at.at in
    let n = c.in-Ok.count in
    let xs = c.args.bytes.now in
    let within : n ≤ length xs - at = search (rules, c.in-Ok.ensures.bound, length-take, length-drop) in
    let fits : at + n ≤ length xs = omega (arith, c.loop-at-test.true) in (
      fits,
      c.loop-at.invariant.1,
      omega (arith, c.loop-at.invariant.2),
      c.loop-at.invariant.3,
      record {
        appends = next_part _ _ _ xs at n within c.loop-at.invariant.4.appends c.in-Ok.ensures.bytes;
        counts = omega (arith, c.loop-at.invariant.2, length-take-le (at + n) xs fits);
      },
    )
