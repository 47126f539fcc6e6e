-- The bytes from a place on.
use Rattle.std.proofs.Common.{◌≡◌, ℕ, ◌-◌, ◌<◌, ◌≤◌, List, [], take, drop, length, sym, arith}
use Rattle.std.proofs.lemmas.List.{take_all, drop_all, length-drop}

pub drop_past : (b : List ℕ) (i : ℕ) → length b < i → [] ≡ drop i b
drop_past b i h = sym (drop_all i b (omega arith))

pub drop_range : (b : List ℕ) (i : ℕ) → i ≤ length b → take (length b - i) (drop i b) ≡ drop i b
drop_range b i h = take_all (length b - i) (drop i b) (omega (arith, length-drop i b))
