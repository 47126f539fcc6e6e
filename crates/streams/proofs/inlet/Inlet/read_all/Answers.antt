use Rattle.std.proofs.Common.{◌≡◌, ℕ, ◌≤◌, List, ◌++◌, Option, Some, None, IfSome, take, length, arith, rules, sym, ap}
use Rattle.std.proofs.Common.{subst, ◌∙◌, append-nil, take_all}
use Rattle.std.specs.Io.KnownBytes.{Consumes, IsAtEnd}
use Rattle.std.proofs.KnownBytes.{Consumes-trans}
use Rattle.std.proofs.lemmas.List.{places}
use lib.Seq.{take-append-le}
use Rattle.streams.proofs.inlet.Inlet.read_all.Goals as goal

-- the whole of what a reader gave is its first bytes, as many as the limit allows
whole : (limit : ℕ) (a b : Option (List ℕ)) (bs : List ℕ) → length bs ≤ limit → Consumes a b bs → IsAtEnd b
    → IfSome a (λ xs. bs ≡ take limit xs)
whole limit None b bs h p q = tt
whole limit (Some x) None bs h p q = absurd p
whole limit (Some x) (Some y) bs h p q =
    let same : x ≡ bs = p ∙ ap (λ l. bs ++ l) q ∙ append-nil bs in
    let short : length x ≤ limit = subst (λ (l : List ℕ). length l ≤ limit) (sym same) h in
    sym same ∙ sym (take_all limit x short)

-- as many bytes as the limit allows are the first ones
full : (limit : ℕ) (a b : Option (List ℕ)) (bs : List ℕ) → length bs ≡ limit → Consumes a b bs
    → IfSome a (λ xs. bs ≡ take limit xs)
full limit None b bs h p = tt
full limit (Some x) None bs h p = absurd p
full limit (Some x) (Some y) bs h p =
    sym (ap (take limit) p ∙ take-append-le limit bs y (omega (arith, h)) ∙ take_all limit bs (omega (arith, h)))

-- a read that gave nothing consumed nothing
nothing_more : (count : ℕ) (a b c : Option (List ℕ)) (bs piece : List ℕ) → count ≡ 0 → Consumes a b bs
    → Consumes b c (take count piece) → Consumes a c bs
nothing_more count a b c bs piece none first second =
    let same : bs ++ take count piece ≡ bs = ap (λ k. bs ++ take k piece) none ∙ append-nil bs in
    subst (Consumes a c) same (Consumes-trans a b c bs _ first second)

pub returns-in-Ok-eq0-clause-came : goal.returns-in-Ok-eq0-clause-came
returns-in-Ok-eq0-clause-came g c =
    nothing_more _ _ _ _ c.loop-piece.bytes.items c.read_piece.new.piece c.in-Ok-eq0.field-0-test
    c.loop-piece.invariant.2 c.in-Ok-eq0.ensures.came

pub returns-in-Ok-eq0-clause-got : goal.returns-in-Ok-eq0-clause-got
returns-in-Ok-eq0-clause-got g c =
    let read = c.in-Ok-eq0.ensures in
    let none = c.in-Ok-eq0.field-0-test in
    let came = nothing_more _ _ _ _ c.loop-piece.bytes.items c.read_piece.new.piece none c.loop-piece.invariant.2
    read.came in
    whole 134217729 _ _ c.loop-piece.bytes.items (search (rules, places)) came (read.end none)

pub returns-clause-got : goal.returns-clause-got
returns-clause-got g c = full 134217729 _ _ c.loop-piece.bytes.items (search (rules, places)) c.loop-piece.invariant.2
