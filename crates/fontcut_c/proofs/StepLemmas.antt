-- The refusal of a list of files names the file that is no cut as its step does.
use Rattle.std.proofs.Common.{◌≡◌, ℕ, zero, suc, Bool, true, false, nat_lt, not, List, [], ◌∷◌, Option, None, Some}
use Rattle.std.proofs.Common.{length, ap, sym, subst, ◌∙◌, arith}
use Rattle.std.proofs.lemmas.Bool.{ne_eqb}
use Rattle.std.specs.Prelude.{if◌then◌else◌}
use Rattle.std.specs.Option.{option_map, option_or}
use Rattle.sfnt_bytes.specs.Lines.{first_of_lines, when}
use Rattle.sfnt_bytes.specs.declared.directory.TheConstants.{MAX_FILE}
use Rattle.font_file.specs.Font.{font_fault}
use Rattle.font_file.specs.declared.font_error.FontError.{FontError}
use Rattle.font_theory.specs.Content.{Content, Font as FontRead}
use Rattle.font_theory.specs.Cut.{Format, content_of_all, is_cut, joined, misfit_of}
use Rattle.font_theory.specs.Difference.{difference}
use Rattle.font_theory.specs.Kinds.{IsKind, format_of}
use Rattle.font_theory.specs.Tree.{file_at}
use Rattle.font_theory.specs.declared.Difference.{Difference}
use Rattle.font_theory.specs.declared.Difference.TheVariants.{AtCode, AtGlyph, AtTable}
use Rattle.font_theory.specs.declared.kinds.Kind.{Kind}
use Rattle.font_theory.proofs.CutLemmas.{IsCut-current, is_cut-of}
use Rattle.font_theory.proofs.KindLemmas.{kind_is}
use Rattle.font_join.specs.Join.{different, form_fault, join_fault, too_long}
use Rattle.font_join.specs.JoinList.{IsAllRefusal, IsRefusedAt}
use Rattle.font_join.specs.declared.join_error.JoinAllError.{JoinAllError}
use Rattle.font_join.specs.declared.join_error.JoinAllError.TheVariants.{At, NothingToJoin}
use Rattle.font_join.specs.declared.join_error.JoinError.{JoinError}
use Rattle.font_join.specs.declared.join_error.JoinError.TheVariants.{DifferentGlyph, DifferentMapping, DifferentTable}
use Rattle.font_join.specs.declared.join_error.JoinError.TheVariants.{Font, NoMemory, NotACut, TableTooLong, TooLarge}
use Rattle.font_join.specs.declared.join_error.Which.{Which}
use Rattle.font_join.specs.declared.join_error.Which.TheVariants.{First, Second}
use Rattle.font_join.proofs.JoinLemmas.{least_upper}
use Rattle.fontcut_c.specs.Errors.{which_at}
use Rattle.fontcut_c.specs.Text.{NamesByItsStep}

-- the refusals of a join, at what they test
abbrev lines_at : Option FontError → Option FontError → Option FontError → Option FontError → Bool → Bool
    → Option Difference → Option ℕ → Bool → ℕ → Option JoinError
lines_at fx fy gx gy cx cy d m big size =
    first_of_lines (option_map (Font First) fx ∷ option_map (Font Second) fy
    ∷ option_or (option_map (Font First) gx) (when (not cx) (NotACut First)) ∷ option_or (option_map (Font Second) gy)
    (when (not cy) (NotACut Second))
    ∷ option_map different d ∷ option_map too_long m ∷ when big (TooLarge size) ∷ [])

-- of a file with itself the first is named
first_named : (f g : Option FontError) (c : Bool) (d : Option Difference) (m : Option ℕ) (big : Bool) (size : ℕ)
    (which : Which) → lines_at f f g g c c d m big size ≡ Some (NotACut which) → which ≡ First
first_named (Some e) g c d m big size which h = cc
first_named None (Some e) c d m big size which h = cc
first_named None None false d m big size which h = cc
first_named None None true (Some (AtTable slot)) m big size which h = cc
first_named None None true (Some (AtCode code)) m big size which h = cc
first_named None None true (Some (AtGlyph g)) m big size which h = cc
first_named None None true None (Some slot) big size which h = cc
first_named None None true None None true size which h = cc
first_named None None true None None false size which h = cc

-- after a file that is a cut the second is named
second_named : (fx fy gx gy : Option FontError) (cy : Bool) (d : Option Difference) (m : Option ℕ) (big : Bool)
    (size : ℕ) (which : Which) → lines_at fx fy gx gy true cy d m big size ≡ Some (NotACut which) → which ≡ Second
second_named (Some e) fy gx gy cy d m big size which h = cc
second_named None (Some e) gx gy cy d m big size which h = cc
second_named None None (Some e) gy cy d m big size which h = cc
second_named None None None (Some e) cy d m big size which h = cc
second_named None None None None false d m big size which h = cc
second_named None None None None true (Some (AtTable slot)) m big size which h = cc
second_named None None None None true (Some (AtCode code)) m big size which h = cc
second_named None None None None true (Some (AtGlyph g)) m big size which h = cc
second_named None None None None true None (Some slot) big size which h = cc
second_named None None None None true None None true size which h = cc
second_named None None None None true None None false size which h = cc

second_at : (k : ℕ) → which_at (suc k) ≡ Second
second_at k = ap (λ (b : Bool). if b then First else Second) (ne_eqb (suc k) 0 (λ (e : suc k ≡ 0). omega (arith, e)))

module _ {R : Format} {fault : List ℕ → Option FontError} {font : List ℕ → FontRead} {spelled : Content
    → Content} (kind : IsKind R fault font spelled) (files : List (List ℕ)) where
  named : (step : ℕ) (which : Which) → IsRefusedAt R files step (NotACut which) → which ≡ which_at step
  unfolding join_fault form_fault
  named zero which r =
      let x = file_at files 0 in
      first_named (font_fault x) (R.fault x) (is_cut R x) (difference (content_of_all R x) (content_of_all R x))
      (misfit_of R x x) (nat_lt MAX_FILE (length (joined R x x))) (length (joined R x x)) which
      (subst (λ (b : List ℕ). join_fault R b x ≡ Some (NotACut which)) r.stands r.refused)
  named (suc k) which r =
      let x = r.before in
      let y = file_at files (suc k) in
      let is_one = is_cut-of R kind.law x
      (IsCut-current R x (least_upper kind r.stands.0 (file_at files k) x r.stands.2).cut_form) in
      second_named (font_fault x) (font_fault y) (R.fault x) (R.fault y) (is_cut R y)
      (difference (content_of_all R x) (content_of_all R y)) (misfit_of R x y) (nat_lt MAX_FILE (length (joined R x y)))
      (length (joined R x y)) which
      (subst (λ (c : Bool). lines_at (font_fault x) (font_fault y) (R.fault x) (R.fault y) c (is_cut R y)
      (difference (content_of_all R x) (content_of_all R y)) (misfit_of R x y) (nat_lt MAX_FILE (length (joined R x y)))
      (length (joined R x y)) ≡ Some (NotACut which)) is_one r.refused)
      ∙ sym (second_at k)

  named_by_step : (error : JoinAllError) → IsAllRefusal R files error → NamesByItsStep error
  named_by_step NothingToJoin r = tt
  named_by_step (At step (Font which error)) r = tt
  named_by_step (At step (NotACut which)) r = named step which r
  named_by_step (At step (DifferentTable tag)) r = tt
  named_by_step (At step (DifferentMapping code)) r = tt
  named_by_step (At step (DifferentGlyph g)) r = tt
  named_by_step (At step (TableTooLong tag)) r = tt
  named_by_step (At step (TooLarge size)) r = tt
  named_by_step (At step NoMemory) r = tt

-- of cuts of each kind
pub names_file : (kind : Kind) (files : List (List ℕ)) (error : JoinAllError)
    → IsAllRefusal (format_of kind) files error → NamesByItsStep error
names_file kind files error r = named_by_step (kind_is kind) files error r
