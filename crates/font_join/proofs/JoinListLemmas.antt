-- What stands after joins in turn, and what follows from it.
use Rattle.std.proofs.Common.{◌≡◌, ℕ, zero, suc, ◌+◌, ◌<◌, ◌≤◌, ◌⊎◌, inl, inr, List, [], get_or, length, map, refl, sym}
use Rattle.std.proofs.Common.{subst, arith, Option, None, Result, Ok, Err, IfOk, IfErr, MatchResult}
use Rattle.std.proofs.lemmas.List.{get_or-map}
use Rattle.std.proofs.lemmas.Result.{MatchResult-weaker}
use Rattle.sfnt_bytes.specs.declared.directory.TheConstants.{MAX_FILE}
use Rattle.sfnt_bytes.specs.declared.tag.Tag.{Tag}
use Rattle.font_file.specs.declared.font_error.FontError.{FontError}
use Rattle.font_theory.specs.Content.{Content, Font as FontRead, Wanted}
use Rattle.font_theory.specs.Agreement.{both}
use Rattle.font_theory.specs.Cut.{Format, IsCurrent, IsCut, content_of_all, cut, renewed}
use Rattle.font_theory.specs.Tree.{Differs, IsOver, IsSmall, JoinTree, Overflows, Value, cuts, file_at, grown}
use Rattle.font_theory.specs.Tree.{union_below}
use Rattle.font_theory.proofs.FontLemmas.{size-accepted}
use Rattle.font_theory.proofs.GrownLemmas.{Stops-grown, Value-grown, Value-grown_cuts, Value-grown_same, grown-cuts}
use Rattle.font_theory.proofs.GrownLemmas.{grown-joins}
use Rattle.font_theory.proofs.CutLemmas.{IsCut-current}
use Rattle.font_theory.proofs.TreeLemmas.{Overflows-none}
use Rattle.font_theory.specs.Kinds.{IsKind}
use Rattle.font_join.specs.JoinList.{AreCuts, IsAllJoined, IsAllRefusal, IsForDifference, IsForSizeInto, IsForSizeOf}
use Rattle.font_join.specs.JoinList.{IsRefusedAt, JoinLaws, Stands, StopsJoin}
use Rattle.font_join.specs.Join.{IsForSize, IsJoin}
use Rattle.font_join.specs.declared.join_error.JoinAllError.{JoinAllError}
use Rattle.font_join.specs.declared.join_error.JoinAllIntoError.{JoinAllIntoError}
use Rattle.font_join.specs.declared.join_error.JoinAllIntoError.TheVariants.{NotJoined, WriteFault}
use Rattle.streams.specs.declared.outlet.Outlet.{Outlet}
use Rattle.font_join.specs.declared.join_error.JoinAllError.TheVariants.{At, NothingToJoin}
use Rattle.font_join.specs.declared.join_error.JoinError.{JoinError}
use Rattle.font_join.specs.declared.join_error.JoinError.TheVariants.{DifferentGlyph, DifferentMapping, DifferentTable}
use Rattle.font_join.specs.declared.join_error.JoinError.TheVariants.{Font, NoMemory, NotACut, TableTooLong, TooLarge}
use Rattle.font_join.proofs.JoinLemmas.{font_accepted, joinable, least_upper, never_too_long, only_size, small_join}

pub file_at-map : {X : Type 0} (f : X → List ℕ) (xs : List X) (k : ℕ) (d : X) → k < length xs
    → f (get_or xs k d) ≡ file_at (map f xs) k
file_at-map f xs k d low = sym (get_or-map f xs k d [] low)

-- what holds of an answer, and what of a refusal
pub result_cases : {T E : Type 0} (P : T → Type 0) (Q : E → Type 0) (r : Result T E) → IfOk r P → IfErr r Q
    → MatchResult r P Q
result_cases P Q (Ok x) a b = a
result_cases P Q (Err e) a b = b

-- no step is refused for a table that has no room, where each table always has
pub never_too_long_of_all : (R : Format) (files : List (List ℕ)) → ((K : Content) → R.misfit K ≡ None) → (step : ℕ)
    (tag : Tag) → IsAllRefusal R files (At step (TableTooLong tag)) → ⊥
never_too_long_of_all R files all step tag r = never_too_long R r.before (file_at files step)
    (all (both (content_of_all R r.before) (content_of_all R (file_at files step)))) tag r.refused

module _ {R : Format} {fault : List ℕ → Option FontError} {font : List ℕ → FontRead} {spelled : Content
    → Content} (kind : IsKind R fault font spelled) where
  -- a size that is no more than the program's is no more than the format's
  to_most : (b : List ℕ) → length b ≤ MAX_FILE → length b ≤ R.limit
  to_most b small = subst (λ (n : ℕ). length b ≤ n) (sym kind.limit) small

  module _ (files : List (List ℕ)) where
    pub stands_more : (k : ℕ) (w x y v : List ℕ) → Stands R files k w → x ≡ w → y ≡ file_at files k → IsJoin R x y v
        → Stands R files (k + 1) v
    stands_more k w x y v s ex ey j =
        let e : suc k ≡ k + 1 = omega arith in
        let j' : IsJoin R w (file_at files k) v =
        subst (λ (a : List ℕ). IsJoin R a (file_at files k) v) ex (subst (λ (b : List ℕ). IsJoin R x b v) ey j) in
        subst (λ (n : ℕ). Stands R files n v) e (w, s, j')

    -- what stands after k joins is the value of the tree that grows file by file
    pub Value-stands : (k : ℕ) (v : List ℕ) → Stands R files k v → Value R (grown files k) v
    Value-stands zero v e = e
    Value-stands (suc k) v s = (
      s.0,
      file_at files k,
      Value-stands k s.0 s.1,
      refl,
      (joinable kind s.0 (file_at files k) s.2.unrefused).0,
      s.2.is,
    )

    -- it is no larger than the first file may be, and in cut form where that is
    stands_small : (k : ℕ) (v : List ℕ) → length (file_at files 0) ≤ MAX_FILE → Stands R files k v → length v ≤ MAX_FILE
    stands_small zero v few e = subst (λ (b : List ℕ). length b ≤ MAX_FILE) (sym e) few
    stands_small (suc k) v few s = small_join kind s.0 (file_at files k) v s.2

    stands_cut : (k : ℕ) (v : List ℕ) → IsCut R (file_at files 0) → Stands R files k v → IsCut R v
    stands_cut zero v form e = subst (IsCut R) (sym e) form
    stands_cut (suc k) v form s = IsCut-current R v (least_upper kind s.0 (file_at files k) v s.2).cut_form

    pub small_joined : (z : List ℕ) → IsAllJoined R files z → length z ≤ MAX_FILE
    small_joined z all = go (length files) refl all.stands
      where
        go : (n : ℕ) → n ≡ length files → Stands R files n z → length z ≤ MAX_FILE
        go zero e s = let h = all.some in absurd (omega arith)
        go (suc n) e s = small_join kind s.0 (file_at files n) z s.2

    -- each tree over the files that meets no size has a value whose file is the answer
    pub value_of_tree : (z : List ℕ) → IsAllJoined R files z → (t : JoinTree (List ℕ)) → IsOver files t → IsSmall R t
        → (v : List ℕ) × Value R t v × (renewed R v ≡ z)
    value_of_tree z all t over few =
        let q = Value-grown R kind.law files all.some z (Value-stands (length files) z all.stands)
        (to_most z (small_joined z all)) t over few in
        (q.0, q.1, q.3)

    -- over current files it is the answer itself
    pub same_of_tree : (z : List ℕ) → IsAllJoined R files z
        → ((k : ℕ) → k < length files → IsCurrent R (file_at files k)) → (t : JoinTree (List ℕ)) → IsOver files t
        → IsSmall R t → Value R t z
    same_of_tree z all forms t over few =
        Value-grown_same R kind.law files all.some z (Value-stands (length files) z all.stands)
        (to_most z (small_joined z all)) forms t over few

    pub value_of_cuts : (z : List ℕ) → IsAllJoined R files z → (F : List ℕ) → R.fault F ≡ None
        → (t : JoinTree Wanted) → IsOver files (cuts R F t) → IsSmall R (cuts R F t)
        → Value R (cuts R F t) z
    value_of_cuts z all F accepted t over few =
        Value-grown_cuts R kind.law files all.some z (Value-stands (length files) z all.stands)
        (to_most z (small_joined z all)) F accepted t over few

    -- a difference met in turn is met in each tree
    clash_at : (k : ℕ) (error : JoinError) → IsRefusedAt R files k error → ((n : ℕ) → IsForSize n error → ⊥)
        → ((i : ℕ) → i < length files → IsCut R (file_at files i)) → (t : JoinTree (List ℕ)) → IsOver files t
        → IsSmall R t → (Differs R t ⊎ Overflows R t) × (((K : Content) → R.misfit K ≡ None) → Differs R t)
    clash_at k error r other forms t over few =
        let low = r.below in
        let some : 0 < length files = omega arith in
        let x = r.before in
        let form = stands_cut k x (forms 0 some) r.stands in
        let small : length x ≤ MAX_FILE = size-accepted x (font_accepted kind x form.accepted) in
        let stops = Stops-grown R kind.law files forms k low x (Value-stands k x r.stands) (to_most x small)
        (λ can. other _ (only_size kind x (file_at files k) (record {
          first = form;
          second = forms k low;
          agree = can.0;
          fit = can.1;
        }) error r.refused)) t over few in (
          stops,
          λ all. elim stops [ inl d ↦ d | inr d ↦ absurd (Overflows-none R kind.law all t d) ],
        )

    pub clash_differs : (error : JoinAllError) → IsAllRefusal R files error → IsForDifference error
        → ((i : ℕ) → i < length files → IsCut R (file_at files i)) → (t : JoinTree (List ℕ)) → IsOver files t
        → IsSmall R t → (Differs R t ⊎ Overflows R t) × (((K : Content) → R.misfit K ≡ None) → Differs R t)
    clash_differs NothingToJoin r d = absurd d
    clash_differs (At k (Font which f)) r d = absurd d
    clash_differs (At k (NotACut which)) r d = absurd d
    clash_differs (At k (DifferentTable tag)) r d = clash_at k _ r (λ n o. o)
    clash_differs (At k (DifferentMapping code)) r d = clash_at k _ r (λ n o. o)
    clash_differs (At k (DifferentGlyph g)) r d = clash_at k _ r (λ n o. o)
    clash_differs (At k (TableTooLong tag)) r d = clash_at k _ r (λ n o. o)
    clash_differs (At k (TooLarge s)) r d = absurd d
    clash_differs (At k NoMemory) r d = absurd d

    -- cuts of one font
    module _ (F : List ℕ) (A : ℕ → Wanted) (are : AreCuts R F A files) where
      most : (k : ℕ) → k < length files → length (file_at files k) ≤ R.limit
      most k low = to_most (file_at files k) (are.small k low)

      pub cuts_in_turn : (z : List ℕ) → IsAllJoined R files z → z ≡ cut R F (union_below A (length files))
      cuts_in_turn z all = go (length files) refl all.stands
        where
          go : (n : ℕ) → n ≡ length files → Stands R files n z → z ≡ cut R F (union_below A n)
          go zero e s = let h = all.some in absurd (omega arith)
          go (suc n) e s = grown-cuts R kind.law files F are.accepted A are.cuts most n (omega (arith, e)) z
              (Value-stands (suc n) z s)

      cuts_refused_at : (k : ℕ) (error : JoinError) → IsRefusedAt R files k error
          → IsForSize (length (cut R F (union_below A (suc k)))) error
      cuts_refused_at k error r =
          let low = r.below in
          let some : 0 < length files = omega arith in
          let w = grown-joins R kind.law files F are.accepted A are.cuts most k low r.before
          (Value-stands k r.before r.stands)
          (to_most r.before (stands_small k r.before (are.small 0 some) r.stands)) in
          subst (λ (b : List ℕ). IsForSize (length b) error) w.1 (only_size kind r.before (file_at files k) w.0 error
          r.refused)

      pub cuts_refused_in_turn : (error : JoinAllError) → IsAllRefusal R files error → IsForSizeOf R F A files error
      cuts_refused_in_turn NothingToJoin h = h
      cuts_refused_in_turn (At k error) r = cuts_refused_at k error r

      pub cuts_refused_into : {W : Type 0} (contents : W → Option (List ℕ)) (old new : Outlet W)
          (error : JoinAllIntoError) → StopsJoin R contents old new files error → IsForSizeInto R F A files error
      cuts_refused_into contents old new (NotJoined error) r = cuts_refused_in_turn error r.1
      cuts_refused_into contents old new (WriteFault written) r = tt

    -- an answer that gives what all steps come to has the laws, where each refusal over cuts of one font is for size
    pub laws_of_join : {T E : Type 0} (result : Result T E) (gives : List ℕ → T → Type 0) (is_for_size : List ℕ
        → (ℕ → Wanted) → List (List ℕ) → E → Type 0)
        → MatchResult result (λ v. (z : List ℕ) × IsAllJoined R files z × gives z v) (λ e. (F : List ℕ) (A : ℕ
        → Wanted) → AreCuts R F A files → is_for_size F A files e)
        → JoinLaws R files result gives is_for_size
    laws_of_join result gives is_for_size h = record {
      value = MatchResult-weaker result h (λ v w. (w.0, w.2, Value-stands (length files) w.0 w.1.stands)) (λ e q. tt);
      cuts = λ F A are. MatchResult-weaker result h (λ v w. subst (λ (z : List ℕ). gives z v)
          (cuts_in_turn F A are w.0 w.1) w.2) (λ e q. q F A are);
      grouping = λ F t accepted over few. MatchResult-weaker result h
          (λ v w. (w.0, w.2, value_of_cuts w.0 w.1 F accepted t over few)) (λ e q. tt);
      trees = λ t over few. MatchResult-weaker result h (λ v w.
          let q = value_of_tree w.0 w.1 t over few in
          (q.0, q.1, subst (λ (z : List ℕ). gives z v) (sym q.2) w.2)) (λ e q. tt);
      one_form = λ forms t over few. MatchResult-weaker result h
          (λ v w. (w.0, w.2, same_of_tree w.0 w.1 forms t over few)) (λ e q. tt);
    }
