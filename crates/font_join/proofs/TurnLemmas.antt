-- The union of cuts of one kind that are joined in turn: what it holds, and why a file is not added.
use Rattle.std.proofs.Common.{◌≡◌, ℕ, zero, suc, ◌+◌, ◌-◌, ◌≤◌, ◌<◌, inl, List, [], ◌∷◌, length, Option, None}
use Rattle.std.proofs.Common.{refl, sym, ap, ◌∙◌, subst, arith}
use Rattle.std.specs.Option.{option_map}
use Rattle.sfnt_bytes.specs.Lines.{first_of_lines}
use Rattle.sfnt_bytes.specs.declared.directory.TheConstants.{MAX_FILE}
use Rattle.font_file.specs.Font.{font_fault}
use Rattle.font_file.specs.declared.font_error.FontError.{FontError}
use Rattle.font_theory.specs.Content.{Content, Font as FontRead, everything}
use Rattle.font_theory.specs.Cut.{Format, IsCut, content_of_all, misfit_of}
use Rattle.font_theory.specs.Cut.Arises.{of_file}
use Rattle.font_theory.specs.Difference.{difference}
use Rattle.font_theory.specs.File.{file, current_writing}
use Rattle.font_theory.specs.Agreement.{both}
use Rattle.font_theory.specs.Tree.{file_at}
use Rattle.font_theory.proofs.CutLemmas.{CanJoin-self, IsCurrent-written, IsCut-current, is_cut-of}
use Rattle.font_theory.proofs.CutLemmas.{content_of_all-written}
use Rattle.font_theory.proofs.JoinLemmas.{both-self}
use Rattle.font_theory.proofs.RefusalLemmas.{tested-CanJoin}
use Rattle.font_write.specs.WholeFile.{IsFileRefusal, IsWritten}
use Rattle.font_write.specs.declared.cut_error.CutError.{CutError}
use Rattle.font_write.specs.declared.cut_error.CutError.TheVariants as cut_errors
use Rattle.font_theory.specs.Kinds.{IsKind, format_of}
use Rattle.font_theory.specs.declared.kinds.Kind.{Kind}
use Rattle.font_theory.proofs.KindLemmas.{kind_is}
use Rattle.font_subset.specs.OpenedFont.{IsOpenRefusal}
use Rattle.font_subset.specs.declared.open_error.OpenError.{OpenError}
use Rattle.font_subset.specs.declared.open_error.OpenError.TheVariants as open_errors
use Rattle.font_join.specs.Inside.{HoldsFile, IsAddRefusal, IsFirstUnion, IsFormRefusal, IsTooLargeFile, IsUnited}
use Rattle.font_join.specs.Inside.{Spells, add_fault, join_error_of_open}
use Rattle.font_join.specs.Join.{IsJoin, IsJoinRefusal, IsUnionRefusal, different, form_fault, join_error_of_cut}
use Rattle.font_join.specs.Join.{too_long, union_fault}
use Rattle.font_join.specs.JoinList.{IsAllJoined, IsRefusedAt, Stands}
use Rattle.font_join.specs.declared.join_error.JoinError.{JoinError}
use Rattle.font_join.specs.declared.join_error.JoinError.TheVariants.{DifferentGlyph, DifferentMapping, DifferentTable}
use Rattle.font_join.specs.declared.join_error.JoinError.TheVariants.{Font, NoMemory, NotACut, TableTooLong, TooLarge}
use Rattle.font_join.specs.declared.join_error.Which.{Which}
use Rattle.font_join.specs.declared.join_error.Which.TheVariants.{First, Second}
use Rattle.font_join.proofs.JoinLemmas.{font_accepted, form_unread, form_whole, is_join, is_too_large, joinable}
use Rattle.font_join.proofs.JoinLemmas.{union_refused}
use Rattle.font_join.proofs.JoinListLemmas.{stands_more}
use Rattle.font_join.proofs.UnionLemmas.{first_form}

-- a font that is not opened for cuts of a kind is not taken for a cut
pub unopened_refused : (kind : Kind) (which : Which) (x : List ℕ) (error : OpenError) → IsOpenRefusal kind x error
    → IsFormRefusal (format_of kind) which x (join_error_of_open which error)
unopened_refused kind which x open_errors.NoMemory h = tt
unopened_refused kind which x (open_errors.Refused error) h =
    form_unread (format_of kind) which x error ((kind_is kind).fault_is x ∙ h)

-- a first file that is refused, joined with itself
pub refused_at_first : (R : Format) (files : List (List ℕ)) (x : List ℕ) (error : JoinError) → 0 < length files
    → x ≡ file_at files 0 → IsJoinRefusal R x x error → IsRefusedAt R files 0 error
refused_at_first R files x error some e r =
    record { before = x; stands = e; below = some; refused = subst (λ (y : List ℕ). IsJoinRefusal R x y error) e r }

module _ {R : Format} {fault : List ℕ → Option FontError} {font : List ℕ → FontRead} {spelled : Content
    → Content} (kind : IsKind R fault font spelled) where
  -- unions that are written alike hold the same files
  pub united_same : (files : List (List ℕ)) (C D : Content) → D ≡ C → IsUnited R spelled files C
      → IsUnited R spelled files D
  united_same files C D e h = subst (IsUnited R spelled files) (sym e) h

  pub union_joined : (files : List (List ℕ)) (C : Content) → IsUnited R spelled files C
      → IsAllJoined R files (file current_writing C)
  union_joined files C h =
      record { some = h.some; stands = subst (Stands R files (length files)) h.holds.written h.stands }

  pub union_small : (files : List (List ℕ)) (C : Content) → IsUnited R spelled files C → length (file current_writing C)
      ≤ MAX_FILE
  union_small files C h = subst (λ (z : List ℕ). length z ≤ MAX_FILE) h.holds.written h.holds.small

  -- why two files are refused whose first is not taken for a cut
  pub refused_one : (x y : List ℕ) (error : JoinError) → IsFormRefusal R First x error → IsUnionRefusal R x y error
  refused_one x y NoMemory r = tt
  refused_one x y (Font which f) r = first_form R x y _ r
  refused_one x y (NotACut which) r = first_form R x y _ r
  refused_one x y (DifferentTable tag) r = first_form R x y _ r
  refused_one x y (DifferentMapping code) r = first_form R x y _ r
  refused_one x y (DifferentGlyph g) r = first_form R x y _ r
  refused_one x y (TableTooLong tag) r = first_form R x y _ r
  refused_one x y (TooLarge s) r = first_form R x y _ r

  -- and a first file, joined with itself
  pub refused_first : (x : List ℕ) (error : JoinError) → font_fault x ≡ None → IsFormRefusal R First x error
      → IsJoinRefusal R x x error
  refused_first x error a r = union_refused kind x x a a error (refused_one x x error r)

  -- the refusals of a second file that is added to a first one are those of the two
  pub fault_of_two : (x y : List ℕ) → IsCut R x → union_fault R x y ≡ add_fault R (content_of_all R x) y
  unfolding union_fault add_fault
  fault_of_two x y form =
      let t = form_whole R First x form.accepted (is_cut-of R kind.law x form) in
      λ i. first_of_lines (t i ∷ form_fault R Second y
      ∷ option_map different (difference (content_of_all R x) (content_of_all R y))
      ∷ option_map too_long (misfit_of R x y) ∷ [])

  pub refused_two : (K : Content) (x y : List ℕ) (error : JoinError) → union_fault R x y ≡ add_fault R K y
      → IsAddRefusal R K y error → IsUnionRefusal R x y error
  refused_two K x y NoMemory e r = tt
  refused_two K x y (Font which f) e r = e ∙ r
  refused_two K x y (NotACut which) e r = e ∙ r
  refused_two K x y (DifferentTable tag) e r = e ∙ r
  refused_two K x y (DifferentMapping code) e r = e ∙ r
  refused_two K x y (DifferentGlyph g) e r = e ∙ r
  refused_two K x y (TableTooLong tag) e r = e ∙ r
  refused_two K x y (TooLarge s) e r = e ∙ r

  -- what is written of a content is its file, and no larger than a file may be
  pub holds_file : (C K : Content) → Spells R spelled C K → length (file current_writing C) ≤ MAX_FILE
      → HoldsFile R spelled C (file current_writing C)
  holds_file C K h small =
      let z = file current_writing C in
      let is : R.file K ≡ z = kind.writes K ∙ ap (file current_writing) (sym h.is) in
      let few : length z ≤ R.limit = subst (λ (n : ℕ). length z ≤ n) (sym kind.limit) small in
      let form = IsCurrent-written R kind.law K z h.arises is few in
      record {
        form = form;
        spells = record {
          arises = of_file z everything form.accepted refl;
          is = h.is
              ∙ ap spelled (sym (content_of_all-written R kind.law K z h.arises (inl is) few));
        };
        written = refl;
        small = small;
      }

  -- a file that is added to one that stands
  module _ (C : Content) (x y : List ℕ) (holds : HoldsFile R spelled C x) (accepted : font_fault y ≡ None) where
    pub first_accepted : font_fault x ≡ None
    first_accepted = font_accepted kind x holds.form.accepted

    -- the refusals are those of the two files
    same_fault : union_fault R x y ≡ add_fault R (content_of_all R x) y
    same_fault = fault_of_two x y (IsCut-current R x holds.form)

    pub refused_next : (error : JoinError) → IsAddRefusal R (content_of_all R x) y error → IsJoinRefusal R x y error
    refused_next error r =
        union_refused kind x y first_accepted accepted error (refused_two (content_of_all R x) x y error same_fault r)

    module _ (D : Content) (none : add_fault R (content_of_all R x) y ≡ None)
        (spells : Spells R spelled D (both (content_of_all R x) (content_of_all R y))) where
      pub too_large_next : (error : JoinError) → IsTooLargeFile (file current_writing D) error
          → IsJoinRefusal R x y error
      too_large_next error large =
          subst (IsJoinRefusal R x y) (sym large.0)
          (is_too_large kind x y first_accepted accepted (same_fault ∙ none) D spells.is
          (length (file current_writing D)) (refl, large.1))

      pub joined_next : length (file current_writing D) ≤ MAX_FILE → (z : List ℕ) × IsJoin R x y z
          × HoldsFile R spelled D z
      joined_next small = (
        file current_writing D,
        is_join kind x y first_accepted accepted (same_fault ∙ none) D spells.is (file current_writing D)
            (record { is = refl; small = small }),
        holds_file D (both (content_of_all R x) (content_of_all R y)) spells small,
      )

  -- nothing but its size refuses a file in cut form that is joined with itself
  unfault_self : (x : List ℕ) → IsCut R x → union_fault R x x ≡ None
  unfolding union_fault
  unfault_self x form =
      let w = tested-CanJoin R kind.law x x form.accepted form.accepted (CanJoin-self R kind.law x form) in
      λ i. first_of_lines (form_whole R First x form.accepted w.0 i ∷ form_whole R Second x form.accepted w.1 i
      ∷ option_map different (w.2 i) ∷ option_map too_long (w.3 i) ∷ [])

  -- a first file in cut form, which is written anew where that is not too large
  module _ (C : Content) (x : List ℕ) (spells : Spells R spelled C (content_of_all R x)) (form : IsCut R x) where
    self_accepted : font_fault x ≡ None
    self_accepted = font_accepted kind x form.accepted

    self_spells : C ≡ spelled (both (content_of_all R x) (content_of_all R x))
    self_spells = spells.is ∙ ap spelled (sym (both-self (content_of_all R x)))

    pub too_large_first : (error : JoinError) → IsTooLargeFile (file current_writing C) error
        → IsJoinRefusal R x x error
    too_large_first error large =
        subst (IsJoinRefusal R x x) (sym large.0)
        (is_too_large kind x x self_accepted self_accepted (unfault_self x form) C self_spells
        (length (file current_writing C)) (refl, large.1))

    pub joined_first : length (file current_writing C) ≤ MAX_FILE → (z : List ℕ) × IsJoin R x x z
        × HoldsFile R spelled C z
    joined_first small = (
      file current_writing C,
      is_join kind x x self_accepted self_accepted (unfault_self x form) C self_spells (file current_writing C)
          (record { is = refl; small = small }),
      holds_file C (content_of_all R x) spells small,
    )

  module _ (files : List (List ℕ)) where
    pub first_union : (C : Content) (x : List ℕ) → 0 < length files → x ≡ file_at files 0 → IsCut R x
        → Spells R spelled C (content_of_all R x) → IsFirstUnion R spelled files C
    first_union C x some is form spells =
        record {
          some = some;
          form = subst (IsCut R) is form;
          spells = subst (λ (y : List ℕ). Spells R spelled C (content_of_all R y)) is spells;
        }

    -- the first file stands, joined with itself
    pub stands_first : (C : Content) (x : List ℕ) → x ≡ file_at files 0
        → ((z : List ℕ) × IsJoin R x x z × HoldsFile R spelled C z) → (v : List ℕ) × Stands R files 1 v
        × HoldsFile R spelled C v
    stands_first C x e j = (j.0, (x, e, subst (λ (y : List ℕ). IsJoin R x y j.0) e j.1), j.2)

    -- and one more
    pub stands_next : (k : ℕ) (C : Content) (y : List ℕ) → y ≡ file_at files k → (x : List ℕ) → Stands R files k x
        → ((z : List ℕ) × IsJoin R x y z × HoldsFile R spelled C z)
        → (v : List ℕ) × Stands R files (k + 1) v × HoldsFile R spelled C v
    stands_next k C y e x s j = (j.0, stands_more kind files k x x y j.0 s refl e j.1, j.2)

    pub refused_at_next : (k : ℕ) (y : List ℕ) (error : JoinError) → k < length files → y ≡ file_at files k
        → (x : List ℕ) → Stands R files k x → IsJoinRefusal R x y error → IsRefusedAt R files k error
    refused_at_next k y error low e x s r =
        record { before = x; stands = s; below = low; refused = subst (λ (b : List ℕ). IsJoinRefusal R x b error) e r }

    pub united_end : (k : ℕ) (C : Content) → k ≡ length files → 0 < length files → ((v : List ℕ) × Stands R files k v
        × HoldsFile R spelled C v) → IsUnited R spelled files C
    united_end k C e some s = record {
      some = some;
      last = s.0;
      stands = subst (λ (n : ℕ). Stands R files n s.0) e s.1;
      holds = s.2;
    }

    module _ (C : Content) (is : IsUnited R spelled files C) where
      -- the file of the union is what stands after the last join
      pub united_file : (z : List ℕ) → IsWritten (file current_writing C) z → IsAllJoined R files z
      united_file z w = record {
        some = is.some;
        stands = subst (Stands R files (length files)) (is.holds.written
            ∙ sym w.is) is.stands;
      }

      -- where memory is refused for it, that is refused memory at the last step
      pub united_memory : IsRefusedAt R files (length files - 1) NoMemory
      united_memory = go (length files) refl is.stands
        where
          go : (n : ℕ) → n ≡ length files → Stands R files n is.last → IsRefusedAt R files (length files - 1) NoMemory
          go zero e s = let some = is.some in absurd (omega arith)
          go (suc n) e s =
              let can = (joinable kind s.0 (file_at files n) s.2.unrefused).0 in
              let at : n ≡ length files - 1 = omega arith in
              subst (λ (k : ℕ). IsRefusedAt R files k NoMemory) at
              (record {
                before = s.0;
                stands = s.1;
                below = omega (arith, e);
                refused = (
                  font_accepted kind s.0 can.first.accepted,
                  font_accepted kind (file_at files n) can.second.accepted,
                );
              })

      -- where its file is not in memory, that is a refusal of the last step, and its size is none
      pub united_refused : (error : CutError) → IsFileRefusal (file current_writing C) error
          → IsRefusedAt R files (length files - 1) (join_error_of_cut error)
      united_refused cut_errors.NoMemory r = united_memory
      united_refused (cut_errors.TooLarge size) r =
          let small = union_small files C is in absurd (omega (arith, small, r.0, r.1))
