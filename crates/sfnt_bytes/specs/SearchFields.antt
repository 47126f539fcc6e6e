-- searchRange, entrySelector, rangeShift (OpenType 1.9, Organization of an OpenType Font, Table Directory).
use Rattle.std.specs.Prelude.{ℕ, zero, suc, ◌-◌, ◌*◌, ◌^◌, nat_lt, nat_le, nat_eq, ◌||◌, if◌then◌else◌, Option, Some}
use Rattle.std.specs.Prelude.{None}

-- the exponent of the largest power of two not above n, where that is at most a highest one
unfoldable pub exponent : ℕ → ℕ → ℕ
exponent zero n = 0
exponent (suc highest) n = if nat_le (2 ^ suc highest) n then suc highest else exponent highest n

-- the three numbers for n tables, where there is a table and 16 times the power of two has a u16
unfoldable pub search_fields_of : ℕ → Option (ℕ × ℕ × ℕ)
search_fields_of n =
    let selector = exponent 11 n in
    let range = 16 * 2 ^ selector in
    if nat_eq n 0 || nat_lt 4095 n then None else Some (range, selector, 16 * n - range)
