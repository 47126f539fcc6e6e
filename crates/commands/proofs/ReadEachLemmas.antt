-- Inlets that are read one after the other.
use Rattle.std.proofs.Common.{◌≡◌, ℕ, ◌+◌, ◌-◌, ◌<◌, false, true, List, [], ◌∷◌, ◌++◌, drop, get_or, length, set}
use Rattle.std.proofs.Common.{Option, refl, sym, ap, subst, ◌∙◌, arith, below_more}
use Rattle.std.proofs.lemmas.List.{drop-drop, drop-set-lt, drop_all, get_or-append_right, get_or-drop, get_or-set_same}
use Rattle.std.proofs.lemmas.List.{get_or_append_left, get_or_default, length-append, length-set}
use Rattle.std.proofs.lemmas.List.Elements.{All-from_all_within, AllWithin-from_all, AllWithin-kept, AllWithin-more_set}
use Rattle.std.proofs.lemmas.Option.{get_or_from_slice_get, slice_get_read, slice_get_within}
use Rattle.std.specs.List.{AllWithin}
use Rattle.font_theory.specs.Tree.{file_at}
use Rattle.streams.specs.Inlet.{Gives, StopsAs, inlet_broken_of, inlet_fresh_of}
use Rattle.commands.specs.JoinRun.{AreGot, AreSpent, AreReadTo, BreaksAfter, IsSpent, ReadStops}
use Rattle.commands.specs.Run.{got, run_error_of_read}
use Rattle.streams.specs.declared.inlet.Inlet.{Inlet}
use Rattle.streams.specs.declared.inlet.ReadError.{ReadError}
use Rattle.streams.specs.declared.inlet.ReadError.TheVariants.{NoMemory, ReadFault}

-- the first k inlets were read, which gave the files; those after them are as they were
pub record AreRead {R : Type 0} (remaining : R → Option (List ℕ)) (old now : List (Inlet R)) (files : List (List ℕ))
    (k : ℕ) : Type 0 where
  pub same : length now ≡ length old
  pub count : length files ≡ k
  pub each : (j : ℕ) → j < k → (d : Inlet R) → got remaining (get_or old j d) (λ bytes. file_at files j ≡ bytes)
  pub spent : AllWithin IsSpent now 0 k
  pub behind : drop k now ≡ drop k old

-- all of them were read
pub all_read_to : {R : Type 0} (old new : List (Inlet R)) → length new ≡ length old → AreSpent new → AreReadTo old new
all_read_to old new same spent = record {
  at = length new;
  before = AllWithin-from_all IsSpent new spent;
  behind = drop_all (length new) new (omega arith) ∙ sym (drop_all (length new) old (omega (arith, same)));
}

module _ {R : Type 0} (remaining : R → Option (List ℕ)) where
  module _ (old now : List (Inlet R)) (files : List (List ℕ)) (k : ℕ) (read : AreRead remaining old now files k) where
    -- the inlet that comes next is as it was
    pub next_is : (d : Inlet R) → get_or now k d ≡ get_or old k d
    next_is d =
        let at : (l : List (Inlet R)) → get_or (drop k l) 0 d ≡ get_or l k d =
        λ l. subst (λ n. get_or (drop k l) 0 d ≡ get_or l n d) (omega arith) (get_or-drop k l 0 d) in
        sym (at now) ∙ ap (λ l. get_or l 0 d) read.behind ∙ at old

    -- those after it are as they were
    behind_next : (y : Inlet R) → drop (k + 1) (set now k y) ≡ drop (k + 1) old
    behind_next y = drop-set-lt (k + 1) now k y (omega arith) ∙ sym (drop-drop 1 k now) ∙ ap (drop 1) read.behind
        ∙ drop-drop 1 k old

    module _ (e y : Inlet R) (low : k < length now) where
      abbrev x : Inlet R
      x = get_or now k e

      is : x ≡ get_or now k x
      is = get_or_default now k e x low

      pub one_more_read : (bytes : List ℕ) (more : List (List ℕ)) → more ≡ files ++ bytes ∷ []
          → got remaining (get_or now k e) (λ bs. bytes ≡ bs) → inlet_fresh_of y ≡ false → inlet_broken_of y ≡ false
          → AreRead remaining old (set now k y) more (k + 1)
      one_more_read bytes more are came spent whole =
          subst (λ l. AreRead remaining old (set now k y) l (k + 1)) (sym are) (record {
            same = length-set now k y ∙ read.same;
            count = length-append files (bytes ∷ []) ∙ ap (λ n. n + 1) read.count;
            each = below_more _ _
                (λ j below d. subst (λ f. got remaining (get_or old j d) (λ bs. f ≡ bs))
                (sym (get_or_append_left files (bytes ∷ []) [] j (let e = read.count in omega (arith, below))))
                (read.each j below d))
                (λ d. subst (λ f. got remaining (get_or old k d) (λ bs. f ≡ bs)) (sym last)
                (subst (λ i. got remaining i (λ bs. bytes ≡ bs)) (same_inlet d) came));
            spent = AllWithin-more_set now k y low IsSpent read.spent (spent, whole);
            behind = behind_next y;
          })
        where
          here : k - k ≡ 0
          here = omega arith

          last : file_at (files ++ bytes ∷ []) k ≡ bytes
          last = get_or-append_right files (bytes ∷ []) k k [] read.count (omega arith)
              ∙ ap (λ n. get_or (bytes ∷ []) n []) here

          same_inlet : (d : Inlet R) → x ≡ get_or old k d
          same_inlet d = is ∙ get_or_default now k x d low ∙ next_is d

      -- the read failed
      breaks_after : (count : ℕ) → inlet_broken_of y ≡ true → Gives remaining (get_or now k e) y count
          → BreaksAfter remaining old (set now k y) count
      breaks_after count broken gives = record {
        at = k;
        unread = x;
        failed = y;
        was = slice_get_read old (length old) k x refl (subst (λ n. k < n) read.same low) (is ∙ next_is x);
        is = slice_get_read (set now k y) (length (set now k y)) k y refl (subst (λ n. k < n) (sym (length-set now k y))
            low) (sym (get_or-set_same now k y y low));
        broken = broken;
        gives = gives;
        before = AllWithin-kept now k y low IsSpent read.spent;
        behind = behind_next y;
      }

      -- no read failed so far
      pub still_read : inlet_fresh_of y ≡ false → inlet_broken_of y ≡ false → AreReadTo old (set now k y)
      still_read spent whole =
          record {
            at = k + 1;
            before = AllWithin-more_set now k y low IsSpent read.spent (spent, whole);
            behind = behind_next y;
          }

      pub stops_reading : inlet_fresh_of y ≡ false → (error : ReadError) → StopsAs remaining (get_or now k e) y error
          → ReadStops remaining old (set now k y) (run_error_of_read error)
      stops_reading spent (ReadFault count) stops = breaks_after count stops.0 stops.1
      stops_reading spent NoMemory whole = still_read spent whole

    module _ (all : k ≡ length old) where
      pub all_got : AreGot remaining old files
      all_got = record {
        count = read.count ∙ all;
        each = λ j inlet at. subst (λ i. got remaining i (λ bs. file_at files j ≡ bs))
            (get_or_from_slice_get old j inlet inlet at)
            (read.each j (subst (λ n. j < n) (sym all) (slice_get_within old j inlet at)) inlet);
      }

      pub all_spent : AreSpent now
      all_spent = All-from_all_within IsSpent now (subst (λ n. AllWithin IsSpent now 0 n) (all
          ∙ sym read.same) read.spent)
