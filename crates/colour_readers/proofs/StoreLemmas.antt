-- What varies, one piece at a time.
use Rattle.std.proofs.Common.{◌≡◌, ℕ, suc, ◌+◌, List, max, ap, arith}
use Rattle.colour_tables.specs.Stores.{data_end, data_ends}

pub next_end : (b : List ℕ) (k : ℕ) → max (data_ends b k) (data_end b k) ≡ data_ends b (k + 1)
next_end b k =
    let next : suc k ≡ k + 1 = omega arith in ap (data_ends b) next
