-- Requests as they stand in memory, and what they ask.
use Rattle.std.proofs.Common.{◌≡◌, ◌∙◌, ℕ, ◌+◌, ◌<◌, ◌&&◌, nat_eq, Bool, true, false, List, [], ◌∷◌, ◌++◌, get_or}
use Rattle.std.proofs.Common.{length, map, ap, sym, refl, take, arith}
use Rattle.std.specs.List.{list_all}
use Rattle.std.proofs.lemmas.Bool.{eqb-true}
use Rattle.std.proofs.lemmas.List.{get_or-map, length-map, map_more}
use Rattle.std.proofs.lemmas.List.Folds.{list_all_at, list_all_more}
use Rattle.fontcut_c.specs.Requests.{RawRequest, asked_at, asked_by, is_like}
use Rattle.fontcut_c.specs.declared.requests.Request.{Request}

-- what the request at an index asks
pub asked_is : (requests : List Request) (k : ℕ) (d : Request) → k < length requests
    → asked_at (map asked_by requests) k ≡ asked_by (get_or requests k d)
asked_is requests k d low = get_or-map asked_by requests k d _ low

-- the first requests pass a test, and one more does or does not
module _ (test : RawRequest → Bool) (requests : List Request) (k : ℕ) (d : Request) (low : k < length requests) where
  abbrev all : List RawRequest
  all = map asked_by requests

  low_in_all : k < length all
  low_in_all = let many = length-map requests asked_by in omega (arith, many, low)

  tested : test (asked_at all k) ≡ test (asked_by (get_or requests k d))
  tested = ap test (asked_is requests k d low)

  pub all_more : list_all test (take k all) ≡ true → test (asked_by (get_or requests k d)) ≡ true
      → list_all test (take (k + 1) all) ≡ true
  all_more before now = list_all_more test all k _ low_in_all ∙ (λ i. before i && (tested ∙ now) i)

  pub all_stop : test (asked_by (get_or requests k d)) ≡ false → list_all test all ≡ false
  all_stop now = list_all_at test all k _ low_in_all (tested ∙ now)

-- what the first requests are made into, and one more
pub asked_more : {X : Type 0} (make : RawRequest → X) (requests : List Request) (k : ℕ) (d : Request)
    (made : List X) → k < length requests → made ≡ map make (take k (map asked_by requests))
    → made ++ make (asked_by (get_or requests k d)) ∷ [] ≡ map make (take (k + 1) (map asked_by requests))
asked_more {X} make requests k d made low so_far =
    let all = map asked_by requests in
    let many = length-map requests asked_by in
    ap (λ (l : List X). l ++ make (asked_by (get_or requests k d)) ∷ []) so_far
    ∙ ap (λ (a : RawRequest). map make (take k all) ++ make a ∷ []) (sym (asked_is requests k d low))
    ∙ sym (map_more make all k _ (omega (arith, many, low)))

both_true : (x y : Bool) → (x && y) ≡ true → (x ≡ true) × (y ≡ true)
both_true true y h = (refl, h)
both_true false y h = cc

-- a request that is like the first one has its flags, and those after it are like it too
module _ (first a : RawRequest) (all : List RawRequest) (h : list_all (is_like first) (a ∷ all) ≡ true) where
  pub same_flags : a.flags ≡ first.flags
  same_flags =
      let like = (both_true (is_like first a) (list_all (is_like first) all) h).0 in
      eqb-true a.flags first.flags
      (both_true (nat_eq a.struct_size first.struct_size && nat_eq a.kind first.kind) _ like).1

  pub same_rest : list_all (is_like first) all ≡ true
  same_rest = (both_true (is_like first a) (list_all (is_like first) all) h).1
