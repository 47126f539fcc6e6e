-- The first refusal of a join of cuts of one kind, and what its answers tell.
use Rattle.std.proofs.Common.{◌≡◌, ℕ, ◌<◌, ◌≤◌, ◌⊎◌, inl, inr, Bool, true, false, not, nat_lt, List, [], ◌∷◌, length}
use Rattle.std.proofs.Common.{refl, sym, ◌∙◌, ap, subst, arith, Option, Some, None, Result, Ok, Err, MatchResult}
use Rattle.std.specs.Option.{option_map, option_or}
use Rattle.std.proofs.lemmas.Bool.{le-ltb, lt-ltb, ltb-false, ltb-true}
use Rattle.sfnt_bytes.specs.Lines.{first_of_lines, when}
use Rattle.sfnt_bytes.specs.declared.directory.TheConstants.{MAX_FILE}
use Rattle.sfnt_bytes.specs.declared.tag.Tag.{Tag}
use Rattle.font_file.specs.Font.{font_fault}
use Rattle.font_file.specs.declared.font_error.FontError.{FontError}
use Rattle.font_theory.specs.Content.{Content, Font as FontRead, Wanted, content, everything}
use Rattle.font_theory.specs.Cut.{CanJoin, Format, IsCut, Under, Writes, content_of_all, cut, either_wanted, is_cut}
use Rattle.font_theory.specs.Cut.{joined, misfit_of, renewed}
use Rattle.font_theory.specs.Difference.{difference}
use Rattle.font_theory.specs.File.{file, current_writing}
use Rattle.font_theory.specs.Agreement.{both}
use Rattle.font_theory.specs.declared.Difference.{Difference}
use Rattle.font_theory.specs.declared.Difference.TheVariants.{AtCode, AtGlyph, AtTable}
use Rattle.font_theory.proofs.CutLemmas.{CanJoin-cuts, CanJoin-self, IsCurrent-joined, Under-joined_left}
use Rattle.font_theory.proofs.CutLemmas.{Under-joined_right, Under-least, joined-cuts, joined-self}
use Rattle.font_theory.proofs.FontLemmas.{size-accepted}
use Rattle.font_theory.proofs.RefusalLemmas.{CanJoin-tested, different-under, no_cut-under, refused-under}
use Rattle.font_theory.proofs.RefusalLemmas.{tested-CanJoin, unfit-under}
use Rattle.font_write.specs.WholeFile.{IsFileRefusal, IsTooLarge, IsWritten}
use Rattle.font_write.specs.declared.cut_error.CutError.{CutError}
use Rattle.font_write.specs.declared.cut_error.CutError.TheVariants as cut_errors
use Rattle.font_theory.specs.Kinds.{IsKind}
use Rattle.font_join.specs.Inside.{IsNoFont}
use Rattle.font_join.specs.Join.{IsForSize, IsJoin, IsJoinRefusal, IsLeastUpper, IsUnionRefusal, RefusalIsRight}
use Rattle.font_join.specs.Join.{different, form_fault, join_error_of_cut, join_fault, too_long, union_fault}
use Rattle.font_join.specs.declared.join_error.JoinError.{JoinError}
use Rattle.font_join.specs.declared.join_error.JoinError.TheVariants.{DifferentGlyph, DifferentMapping, DifferentTable}
use Rattle.font_join.specs.declared.join_error.JoinError.TheVariants.{Font, NoMemory, NotACut, TableTooLong, TooLarge}
use Rattle.font_join.specs.declared.join_error.Which.{Which}
use Rattle.font_join.specs.declared.join_error.Which.TheVariants.{First, Second}

-- the lines, at what they test
abbrev lines_at : Option FontError → Option FontError → Option JoinError → Option JoinError → Option Difference
    → Option ℕ → Bool → ℕ → Option JoinError
lines_at fx fy cx cy d m big size =
    first_of_lines (option_map (Font First) fx ∷ option_map (Font Second) fy ∷ cx ∷ cy ∷ option_map different d
    ∷ option_map too_long m ∷ when big (TooLarge size) ∷ [])

abbrev union_at : Option JoinError → Option JoinError → Option Difference → Option ℕ → Option JoinError
union_at cx cy d m = first_of_lines (cx ∷ cy ∷ option_map different d ∷ option_map too_long m ∷ [])

last_line : (big : Bool) (size : ℕ) → lines_at None None None None None None big size ≡ when big (TooLarge size)
last_line true size = refl
last_line false size = refl

-- a refusal of the union is one of the join
union_first : (cx cy : Option JoinError) (d : Option Difference) (m : Option ℕ) (big : Bool) (size : ℕ)
    (error : JoinError) → union_at cx cy d m ≡ Some error → lines_at None None cx cy d m big size ≡ Some error
union_first (Some c) cy d m big size error h = h
union_first None (Some c) d m big size error h = h
union_first None None (Some d) m big size error h = h
union_first None None None (Some slot) big size error h = h
union_first None None None None big size error h = cc

-- where there is none, the size is left
size_last : (cx cy : Option JoinError) (d : Option Difference) (m : Option ℕ) (big : Bool) (size : ℕ)
    → union_at cx cy d m ≡ None → lines_at None None cx cy d m big size ≡ when big (TooLarge size)
size_last (Some c) cy d m big size h = cc
size_last None (Some c) d m big size h = cc
size_last None None (Some d) m big size h = cc
size_last None None None (Some slot) big size h = cc
size_last None None None None big size h = last_line big size

-- a table is named only where one has no room
abbrev form_at : Which → Option FontError → Bool → Option JoinError
form_at which fault cut = option_or (option_map (Font which) fault) (when (not cut) (NotACut which))

never_long : (fx fy gx gy : Option FontError) (a b : Bool) (d : Option Difference) (big : Bool) (size : ℕ) (tag : Tag)
    → lines_at fx fy (form_at First gx a) (form_at Second gy b) d None big size ≡ Some (TableTooLong tag) → ⊥
never_long (Some f) fy gx gy a b d big size tag h = cc
never_long None (Some f) gx gy a b d big size tag h = cc
never_long None None (Some f) gy a b d big size tag h = cc
never_long None None None gy false b d big size tag h = cc
never_long None None None (Some f) true b d big size tag h = cc
never_long None None None None true false d big size tag h = cc
never_long None None None None true true (Some (AtTable slot)) big size tag h = cc
never_long None None None None true true (Some (AtCode code)) big size tag h = cc
never_long None None None None true true (Some (AtGlyph g)) big size tag h = cc
never_long None None None None true true None true size tag h = cc
never_long None None None None true true None false size tag h = cc

-- what is taken for a cut, and why another file is not
taken_at : (which : Which) (fault : Option FontError) (cut : Bool)
    → option_or (option_map (Font which) fault) (when (not cut) (NotACut which)) ≡ None → (fault ≡ None) × (cut ≡ true)
taken_at which None true h = (refl, refl)
taken_at which None false h = cc
taken_at which (Some f) cut h = cc

-- what holds of a refusal that is answered
pub refused_by : {T E : Type 0} (P : T → Type 0) (Q : E → Type 0) (r : Result T E) (error : E) → r ≡ Err error
    → MatchResult r P Q → Q error
refused_by P Q (Ok v) error e h = cc
refused_by P Q (Err f) error e h = let same : f ≡ error = cc in subst Q same h

module _ (R : Format) (which : Which) (x : List ℕ) where
  pub form_taken : form_fault R which x ≡ None → (R.fault x ≡ None) × (is_cut R x ≡ true)
  unfolding form_fault
  form_taken h = taken_at which (R.fault x) (is_cut R x) h

  pub form_whole : R.fault x ≡ None → is_cut R x ≡ true → form_fault R which x ≡ None
  unfolding form_fault
  form_whole a b = λ i. option_or (option_map (Font which) (a i)) (when (not (b i)) (NotACut which))

  pub form_unread : (fault : FontError) → R.fault x ≡ Some fault → form_fault R which x ≡ Some (Font which fault)
  unfolding form_fault
  form_unread fault a = λ i. option_or (option_map (Font which) (a i)) (when (not (is_cut R x)) (NotACut which))

  pub form_no_cut : R.fault x ≡ None → is_cut R x ≡ false → form_fault R which x ≡ Some (NotACut which)
  unfolding form_fault
  form_no_cut a b = λ i. option_or (option_map (Font which) (a i)) (when (not (b i)) (NotACut which))

module _ (R : Format) (x y : List ℕ) where
  first_fault : (fault : FontError) → font_fault x ≡ Some fault → join_fault R x y ≡ Some (Font First fault)
  unfolding join_fault
  first_fault fault h =
      λ i. lines_at (h i) (font_fault y) (form_fault R First x) (form_fault R Second y)
      (difference (content_of_all R x) (content_of_all R y)) (misfit_of R x y)
      (nat_lt MAX_FILE (length (joined R x y))) (length (joined R x y))

  second_fault : (fault : FontError) → font_fault x ≡ None → font_fault y ≡ Some fault
      → join_fault R x y ≡ Some (Font Second fault)
  unfolding join_fault
  second_fault fault e h =
      λ i. lines_at (e i) (h i) (form_fault R First x) (form_fault R Second y)
      (difference (content_of_all R x) (content_of_all R y)) (misfit_of R x y)
      (nat_lt MAX_FILE (length (joined R x y))) (length (joined R x y))

  pub never_too_long : misfit_of R x y ≡ None → (tag : Tag) → IsJoinRefusal R x y (TableTooLong tag) → ⊥
  unfolding join_fault form_fault
  never_too_long fit tag h = never_long (font_fault x) (font_fault y) (R.fault x) (R.fault y) (is_cut R x) (is_cut R y)
      (difference (content_of_all R x) (content_of_all R y)) (nat_lt MAX_FILE (length (joined R x y)))
      (length (joined R x y)) tag
      (subst (λ (m : Option ℕ). lines_at (font_fault x) (font_fault y) (form_at First (R.fault x) (is_cut R x))
      (form_at Second (R.fault y) (is_cut R y)) (difference (content_of_all R x) (content_of_all R y)) m
      (nat_lt MAX_FILE (length (joined R x y))) (length (joined R x y)) ≡ Some (TableTooLong tag)) fit h)

  -- a file that is not opened is not joined
  pub first_refused : (error : JoinError) → IsNoFont First x error → IsJoinRefusal R x y error
  first_refused error told = subst (IsJoinRefusal R x y) (sym told.2) (first_fault told.0 told.1)

  pub second_refused : (error : JoinError) → font_fault x ≡ None → IsNoFont Second y error → IsJoinRefusal R x y error
  second_refused error e told = subst (IsJoinRefusal R x y) (sym told.2) (second_fault told.0 e told.1)

module _ {R : Format} {fault : List ℕ → Option FontError} {font : List ℕ → FontRead} {spelled : Content
    → Content} (kind : IsKind R fault font spelled) where
  -- what is accepted as a font of the kind is one
  pub font_accepted : (x : List ℕ) → R.fault x ≡ None → font_fault x ≡ None
  font_accepted x ok = go (font_fault x) refl
    where
      go : (o : Option FontError) → font_fault x ≡ o → font_fault x ≡ None
      go None h = h
      go (Some f) h = let n : None ≡ Some f = sym ok ∙ kind.fault_is x ∙ kind.refused x f h in cc

  module _ (x y : List ℕ) where
    -- what is left where both are accepted
    accepted_lines : font_fault x ≡ None → font_fault y ≡ None
        → join_fault R x y ≡ lines_at None None (form_fault R First x) (form_fault R Second y)
        (difference (content_of_all R x) (content_of_all R y)) (misfit_of R x y)
        (nat_lt MAX_FILE (length (joined R x y))) (length (joined R x y))
    unfolding join_fault
    accepted_lines e f =
        λ i. lines_at (e i) (f i) (form_fault R First x) (form_fault R Second y)
        (difference (content_of_all R x) (content_of_all R y)) (misfit_of R x y)
        (nat_lt MAX_FILE (length (joined R x y))) (length (joined R x y))

    fault_before : font_fault x ≡ None → font_fault y ≡ None → (error : JoinError) → union_fault R x y ≡ Some error
        → join_fault R x y ≡ Some error
    unfolding union_fault
    fault_before e f error h = accepted_lines e f ∙ union_first (form_fault R First x) (form_fault R Second y)
        (difference (content_of_all R x) (content_of_all R y)) (misfit_of R x y) _ _ error h

    pub union_refused : font_fault x ≡ None → font_fault y ≡ None → (error : JoinError) → IsUnionRefusal R x y error
        → IsJoinRefusal R x y error
    union_refused e f NoMemory h = (e, f)
    union_refused e f (Font which error) h = fault_before e f _ h
    union_refused e f (NotACut which) h = fault_before e f _ h
    union_refused e f (DifferentTable tag) h = fault_before e f _ h
    union_refused e f (DifferentMapping code) h = fault_before e f _ h
    union_refused e f (DifferentGlyph g) h = fault_before e f _ h
    union_refused e f (TableTooLong tag) h = fault_before e f _ h
    union_refused e f (TooLarge s) h = fault_before e f _ h

    fault_after : font_fault x ≡ None → font_fault y ≡ None → union_fault R x y ≡ None
        → join_fault R x y ≡ when (nat_lt MAX_FILE (length (joined R x y))) (TooLarge (length (joined R x y)))
    unfolding union_fault
    fault_after e f h = accepted_lines e f ∙ size_last (form_fault R First x) (form_fault R Second y)
        (difference (content_of_all R x) (content_of_all R y)) (misfit_of R x y) _ _ h

    -- the file of what is spelled of both contents
    joined-spelled : (C : Content) → C ≡ spelled (both (content_of_all R x) (content_of_all R y))
        → file current_writing C ≡ joined R x y
    joined-spelled C is = ap (file current_writing) is
        ∙ sym (kind.writes (both (content_of_all R x) (content_of_all R y)))

    pub is_join : font_fault x ≡ None → font_fault y ≡ None → union_fault R x y ≡ None → (C : Content)
        → C ≡ spelled (both (content_of_all R x) (content_of_all R y)) → (z : List ℕ)
        → IsWritten (file current_writing C) z → IsJoin R x y z
    is_join e f h C spells z w =
        let is : z ≡ joined R x y = w.is ∙ joined-spelled C spells in
        let small : nat_lt MAX_FILE (length (joined R x y)) ≡ false =
        subst (λ (b : List ℕ). nat_lt MAX_FILE (length b) ≡ false) is (le-ltb MAX_FILE (length z) w.small) in
        record {
          unrefused = fault_after e f h ∙ ap (λ (b : Bool). when b (TooLarge (length (joined R x y)))) small;
          is = is;
        }

    pub is_too_large : font_fault x ≡ None → font_fault y ≡ None → union_fault R x y ≡ None → (C : Content)
        → C ≡ spelled (both (content_of_all R x) (content_of_all R y)) → (s : ℕ)
        → IsTooLarge (file current_writing C) s → join_fault R x y ≡ Some (TooLarge s)
    is_too_large e f h C spells s w =
        let is : s ≡ length (joined R x y) = w.0 ∙ ap length (joined-spelled C spells) in
        let big : nat_lt MAX_FILE (length (joined R x y)) ≡ true =
        lt-ltb MAX_FILE _ (subst (λ (n : ℕ). MAX_FILE < n) is w.1) in
        fault_after e f h ∙ ap (λ (b : Bool). when b (TooLarge (length (joined R x y)))) big
        ∙ ap (λ (n : ℕ). Some (TooLarge n)) (sym is)

    -- a join whose file is not made
    pub unmade : font_fault x ≡ None → font_fault y ≡ None → union_fault R x y ≡ None → (C : Content)
        → C ≡ spelled (both (content_of_all R x) (content_of_all R y)) → (error : CutError)
        → IsFileRefusal (file current_writing C) error → IsJoinRefusal R x y (join_error_of_cut error)
    unmade e f h C spells cut_errors.NoMemory r = (e, f)
    unmade e f h C spells (cut_errors.TooLarge s) r = is_too_large e f h C spells s r

    -- what follows where there is no refusal
    pub joinable : join_fault R x y ≡ None → CanJoin R x y × (length (joined R x y) ≤ MAX_FILE)
    unfolding join_fault
    joinable h = go (font_fault x) (font_fault y) (form_fault R First x) (form_fault R Second y)
        (difference (content_of_all R x) (content_of_all R y)) (misfit_of R x y)
        (nat_lt MAX_FILE (length (joined R x y))) refl refl refl refl refl h
      where
        go : (fx fy : Option FontError) (cx cy : Option JoinError) (d : Option Difference) (m : Option ℕ) (big : Bool)
            → form_fault R First x ≡ cx → form_fault R Second y ≡ cy
            → difference (content_of_all R x) (content_of_all R y) ≡ d → misfit_of R x y ≡ m
            → nat_lt MAX_FILE (length (joined R x y)) ≡ big
            → lines_at fx fy cx cy d m big (length (joined R x y)) ≡ None → CanJoin R x y
            × (length (joined R x y) ≤ MAX_FILE)
        go (Some f) fy cx cy d m big a b g u k h = cc
        go None (Some f) cx cy d m big a b g u k h = cc
        go None None (Some c) cy d m big a b g u k h = cc
        go None None None (Some c) d m big a b g u k h = cc
        go None None None None (Some d) m big a b g u k h = cc
        go None None None None None (Some slot) big a b g u k h = cc
        go None None None None None None true a b g u k h = cc
        go None None None None None None false a b g u k h =
            let first = form_taken R First x a in
            let second = form_taken R Second y b in
            (CanJoin-tested R kind.law x y first.0 second.0 (first.1, second.1, g, u), ltb-false _ _ k)

    -- two that can be joined are refused for the size of their join alone
    fault_joinable : CanJoin R x y → join_fault R x y ≡ when (nat_lt MAX_FILE (length (joined R x y)))
        (TooLarge (length (joined R x y)))
    fault_joinable can =
        let okx = can.first.accepted in
        let oky = can.second.accepted in
        let w = tested-CanJoin R kind.law x y okx oky can in
        accepted_lines (font_accepted x okx) (font_accepted y oky)
        ∙ (λ i. lines_at None None (form_whole R First x okx w.0 i) (form_whole R Second y oky w.1 i) (w.2 i) (w.3 i)
        (nat_lt MAX_FILE (length (joined R x y))) (length (joined R x y)))
        ∙ last_line (nat_lt MAX_FILE (length (joined R x y))) (length (joined R x y))

    -- a refusal is refused memory, or the first line that applies
    pub refusal_cases : (error : JoinError) → IsJoinRefusal R x y error → (error ≡ NoMemory)
        ⊎ (join_fault R x y ≡ Some error)
    refusal_cases NoMemory h = inl refl
    refusal_cases (Font which error) h = inr h
    refusal_cases (NotACut which) h = inr h
    refusal_cases (DifferentTable tag) h = inr h
    refusal_cases (DifferentMapping code) h = inr h
    refusal_cases (DifferentGlyph g) h = inr h
    refusal_cases (TableTooLong tag) h = inr h
    refusal_cases (TooLarge s) h = inr h

    pub only_size : CanJoin R x y → (error : JoinError) → IsJoinRefusal R x y error
        → IsForSize (length (joined R x y)) error
    only_size can error h = elim (refusal_cases error h) [
      | inl m ↦ subst (IsForSize (length (joined R x y))) (sym m) tt
      | inr r ↦ go (nat_lt MAX_FILE (length (joined R x y))) refl (sym (fault_joinable can) ∙ r)
    ]
      where
        go : (b : Bool) → nat_lt MAX_FILE (length (joined R x y)) ≡ b → when b (TooLarge (length (joined R x y)))
            ≡ Some error → IsForSize (length (joined R x y)) error
        go true k q = let q' : TooLarge (length (joined R x y)) ≡ error = cc in
            subst (IsForSize (length (joined R x y))) q' (refl, ltb-true _ _ k)
        go false k q = cc

    pub small_join : (z : List ℕ) → IsJoin R x y z → length z ≤ MAX_FILE
    small_join z ok = subst (λ (b : List ℕ). length b ≤ MAX_FILE) (sym ok.is) (joinable ok.unrefused).1

    -- the join is the least file of which both are cuts
    pub least_upper : (z : List ℕ) → IsJoin R x y z → IsLeastUpper R x y z
    least_upper z ok =
        let w = joinable ok.unrefused in
        let small : length (joined R x y) ≤ R.limit =
        subst (λ (n : ℕ). length (joined R x y) ≤ n) (sym kind.limit) w.1 in
        subst (IsLeastUpper R x y) (sym ok.is) (record {
          cut_form = IsCurrent-joined R kind.law x y w.0 small;
          first = Under-joined_left R kind.law x y w.0 small;
          second = Under-joined_right R kind.law x y w.0 small;
          least = λ F u v. Under-least R kind.law x y F w.0 small u v;
        })

    -- a refusal is a true one
    pub true_refusal : (error : JoinError) → IsJoinRefusal R x y error → RefusalIsRight R x y error
    unfolding join_fault form_fault
    true_refusal error h = elim (refusal_cases error h) [
      | inl m ↦ subst (RefusalIsRight R x y) (sym m) tt
      | inr r ↦ at_line error r
    ]
      where
        different_both : (d : Difference) → R.fault x ≡ None → R.fault y ≡ None
            → difference (content_of_all R x) (content_of_all R y) ≡ Some d → (F : List ℕ) → Under R x F → Under R y F
            → ⊥
        different_both d a b g F u v = different-under R kind.law x y a b F (λ e. let n : None ≡ Some d = sym e ∙ g in
            cc) u v

        unfit_both : (slot : ℕ) → R.fault x ≡ None → R.fault y ≡ None → misfit_of R x y ≡ Some slot → (F : List ℕ)
            → Under R x F → Under R y F → ⊥
        unfit_both slot a b g F u v = unfit-under R kind.law x y a b F (λ e. let n : None ≡ Some slot = sym e ∙ g in cc)
            u v

        at : (d error : JoinError) → RefusalIsRight R x y d → Some d ≡ Some error → RefusalIsRight R x y error
        at d error t q = let q' : d ≡ error = cc in subst (RefusalIsRight R x y) q' t

        -- a file that is not taken for a cut is no cut of any
        first_form : (fault : Option FontError) (cut : Bool) (error : JoinError) → R.fault x ≡ fault → is_cut R x ≡ cut
            → option_or (option_map (Font First) fault) (when (not cut) (NotACut First)) ≡ Some error
            → RefusalIsRight R x y error
        first_form (Some f) cut error a c h = at (Font First f) error (λ other F u v. refused-under R kind.law x F f a
            other u) h
        first_form None false error a c h = at (NotACut First) error (λ F u v. no_cut-under R kind.law x F a c u) h
        first_form None true error a c h = cc

        second_form : (fault : Option FontError) (cut : Bool) (error : JoinError) → R.fault y ≡ fault → is_cut R y ≡ cut
            → option_or (option_map (Font Second) fault) (when (not cut) (NotACut Second)) ≡ Some error
            → RefusalIsRight R x y error
        second_form (Some f) cut error a c h = at (Font Second f) error (λ other F u v. refused-under R kind.law y F f a
            other v) h
        second_form None false error a c h = at (NotACut Second) error (λ F u v. no_cut-under R kind.law y F a c v) h
        second_form None true error a c h = cc

        first_right : (error : JoinError) → form_fault R First x ≡ Some error → RefusalIsRight R x y error
        first_right error h = first_form (R.fault x) (is_cut R x) error refl refl h

        second_right : (error : JoinError) → form_fault R Second y ≡ Some error → RefusalIsRight R x y error
        second_right error h = second_form (R.fault y) (is_cut R y) error refl refl h

        at_line : (error : JoinError) → join_fault R x y ≡ Some error → RefusalIsRight R x y error
        at_line error h = go (font_fault x) (font_fault y) (form_fault R First x) (form_fault R Second y)
            (difference (content_of_all R x) (content_of_all R y)) (misfit_of R x y)
            (nat_lt MAX_FILE (length (joined R x y))) refl refl refl refl refl refl refl h
          where
            go : (fx fy : Option FontError) (cx cy : Option JoinError) (d : Option Difference) (m : Option ℕ)
                (big : Bool)
                → font_fault x ≡ fx → font_fault y ≡ fy → form_fault R First x ≡ cx → form_fault R Second y ≡ cy
                → difference (content_of_all R x) (content_of_all R y) ≡ d → misfit_of R x y ≡ m
                → nat_lt MAX_FILE (length (joined R x y)) ≡ big
                → lines_at fx fy cx cy d m big (length (joined R x y)) ≡ Some error → RefusalIsRight R x y error
            go (Some f) fy cx cy d m big a b c c' g u k h = at (Font First f) error
                (λ other F u v. refused-under R kind.law x F f (kind.fault_is x ∙ kind.refused x f a) other u) h
            go None (Some f) cx cy d m big a b c c' g u k h = at (Font Second f) error
                (λ other F u v. refused-under R kind.law y F f (kind.fault_is y ∙ kind.refused y f b) other v) h
            go None None (Some e) cy d m big a b c c' g u k h = at e error (first_right e c) h
            go None None None (Some e) d m big a b c c' g u k h = at e error (second_right e c') h
            go None None None None (Some (AtTable s)) m big a b c c' g u k h = at (different (AtTable s)) error
                (different_both (AtTable s) (form_taken R First x c).0 (form_taken R Second y c').0 g) h
            go None None None None (Some (AtCode s)) m big a b c c' g u k h = at (different (AtCode s)) error
                (different_both (AtCode s) (form_taken R First x c).0 (form_taken R Second y c').0 g) h
            go None None None None (Some (AtGlyph s)) m big a b c c' g u k h = at (different (AtGlyph s)) error
                (different_both (AtGlyph s) (form_taken R First x c).0 (form_taken R Second y c').0 g) h
            go None None None None None (Some slot) big a b c c' g u k h = at (too_long slot) error
                (unfit_both slot (form_taken R First x c).0 (form_taken R Second y c').0 u) h
            go None None None None None None true a b c c' g u k h =
                let first = form_taken R First x c in
                let second = form_taken R Second y c' in
                at (TooLarge (length (joined R x y))) error (
                  (CanJoin-tested R kind.law x y first.0 second.0 (first.1, second.1, g, u)).agree,
                  refl,
                  ltb-true _ _ k,
                ) h
            go None None None None None None false a b c c' g u k h = cc

  -- cuts of one font
  module _ (F : List ℕ) (A B : Wanted) (x y : List ℕ) (accepted : R.fault F ≡ None)
      (ex : Writes R (content (R.font F) A) x) (ey : Writes R (content (R.font F) B) y) (sx : length x ≤ MAX_FILE)
      (sy : length y ≤ MAX_FILE) where
    pub can_join_cuts : CanJoin R x y
    can_join_cuts = CanJoin-cuts R kind.law F accepted A B x y ex ey
        (subst (λ (n : ℕ). length x ≤ n) (sym kind.limit) sx) (subst (λ (n : ℕ). length y ≤ n) (sym kind.limit) sy)

    is_union : joined R x y ≡ cut R F (either_wanted A B)
    is_union = joined-cuts R kind.law F accepted A B x y ex ey
        (subst (λ (n : ℕ). length x ≤ n) (sym kind.limit) sx) (subst (λ (n : ℕ). length y ≤ n) (sym kind.limit) sy)

    pub cuts_joined : (z : List ℕ) → IsJoin R x y z → z ≡ cut R F (either_wanted A B)
    cuts_joined z ok = ok.is ∙ is_union

    pub cuts_refused : (error : JoinError) → IsJoinRefusal R x y error
        → IsForSize (length (cut R F (either_wanted A B))) error
    cuts_refused error r =
        subst (λ (b : List ℕ). IsForSize (length b) error) is_union (only_size x y can_join_cuts error r)

  -- a file in cut form and itself, which is written anew
  module _ (x : List ℕ) (form : IsCut R x) where
    pub renewed_joined : (z : List ℕ) → IsJoin R x x z → z ≡ renewed R x
    renewed_joined z ok = ok.is ∙ joined-self R x

    pub renewed_refused : (error : JoinError) → IsJoinRefusal R x x error → IsForSize (length (renewed R x)) error
    renewed_refused error r = subst (λ (b : List ℕ). IsForSize (length b) error) (joined-self R x)
        (only_size x x (CanJoin-self R kind.law x form) error r)

  -- a current file and itself
  module _ (x : List ℕ) (accepted : R.fault x ≡ None) (form : cut R x everything ≡ x) where
    same_join : joined R x x ≡ x
    same_join = joined-self R x ∙ form

    pub self_joined : (z : List ℕ) → IsJoin R x x z → z ≡ x
    self_joined z ok = ok.is ∙ same_join

    pub self_refused : (error : JoinError) → IsJoinRefusal R x x error → error ≡ NoMemory
    self_refused error r =
        go error
        (only_size x x (CanJoin-self R kind.law x (record { accepted = accepted; written = inl form })) error r)
      where
        small : length (joined R x x) ≤ MAX_FILE
        small = subst (λ (b : List ℕ). length b ≤ MAX_FILE) (sym same_join) (size-accepted x (font_accepted x accepted))

        go : (error : JoinError) → IsForSize (length (joined R x x)) error → error ≡ NoMemory
        go NoMemory o = refl
        go (TooLarge s) o = let b = o.1 in let c = small in absurd (omega arith)
        go (Font which f) o = absurd o
        go (NotACut which) o = absurd o
        go (DifferentTable tag) o = absurd o
        go (DifferentMapping code) o = absurd o
        go (DifferentGlyph g) o = absurd o
        go (TableTooLong tag) o = absurd o
