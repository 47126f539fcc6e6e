-- What an outlet has sent, at first and after more was sent.
use Rattle.std.proofs.Common.{rules, ◌≡◌, ℕ, ◌+◌, List, [], ◌++◌, Option, Some, None, IsSomeAnd, IsSome, length, sym}
use Rattle.std.proofs.Common.{append-nil}

-- a writer whose bytes are known has sent none of them at count 0
pub sent_none : (a : Option (List ℕ)) (n : ℕ) → n ≡ 0 → IsSome a → IsSomeAnd a (λ xs. (front : List ℕ)
    × (xs ≡ front ++ []) × (length {A = ℕ} [] ≡ n))
sent_none None n e h = search rules
sent_none (Some x) n e h = (x, sym (append-nil x), sym e)
