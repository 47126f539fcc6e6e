-- Records that are looked through one after another.
use Rattle.std.proofs.Common.{◌≡◌, ℕ, ◌+◌, ◌-◌, ◌<◌, ◌≤◌, Bool, true, false, List, ◌∷◌, [], find, map, Some, None}
use Rattle.std.proofs.Common.{cond, fold, refl, ap, ◌∙◌}
use Rattle.sfnt_bytes.specs.Directory.{entries_from, entry_at, table_count}
use Rattle.sfnt_bytes.specs.declared.records.Entry.{Entry}
use Rattle.sfnt_bytes.proofs.RangeLemmas.{range_with_len-step, range_with_len-end}

-- the records from one on
abbrev pub left : List ℕ → ℕ → List Entry
left file k = entries_from file k (table_count file - k)

left-step : (file : List ℕ) (k : ℕ) → k < table_count file → left file k ≡ entry_at file k ∷ left file (k + 1)
left-step file k inside = ap (map (entry_at file)) (range_with_len-step k (table_count file) inside)

left-end : (file : List ℕ) (k : ℕ) → table_count file ≤ k → left file k ≡ []
left-end file k past = ap (map (entry_at file)) (range_with_len-end k (table_count file) past)

pub find_passed : (p : Entry → Bool) (file : List ℕ) (k : ℕ) → k < table_count file → p (entry_at file k) ≡ false
    → find p (left file k) ≡ find p (left file (k + 1))
find_passed p file k inside fails = ap (find p) (left-step file k inside) ∙ rw fails refl

pub find_here : (p : Entry → Bool) (file : List ℕ) (k : ℕ) → k < table_count file → p (entry_at file k) ≡ true
    → find p (left file k) ≡ Some (entry_at file k)
find_here p file k inside passes = ap (find p) (left-step file k inside) ∙ rw passes refl

pub find_end : (p : Entry → Bool) (file : List ℕ) (k : ℕ) → table_count file ≤ k → find p (left file k) ≡ None
find_end p file k past = ap (find p) (left-end file k past)

-- so many records, and those that are left for which the test holds
abbrev pub counted : (Entry → Bool) → ℕ → List ℕ → ℕ → ℕ
counted p count file k = fold (λ a entry. a + cond (p entry) 1 0) count (left file k)

pub count_step : (p : Entry → Bool) (count : ℕ) (file : List ℕ) (k : ℕ) → k < table_count file
    → counted p count file k ≡ counted p (count + cond (p (entry_at file k)) 1 0) file (k + 1)
count_step p count file k inside = ap (fold (λ a entry. a + cond (p entry) 1 0) count) (left-step file k inside)

pub count_end : (p : Entry → Bool) (count : ℕ) (file : List ℕ) (k : ℕ) → table_count file ≤ k
    → counted p count file k ≡ count
count_end p count file k past = ap (fold (λ a entry. a + cond (p entry) 1 0) count) (left-end file k past)
