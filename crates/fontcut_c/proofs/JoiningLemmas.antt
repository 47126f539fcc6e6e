-- What was answered of the file of a union is answered of the join.
use Rattle.std.proofs.Common.{◌≡◌, ℕ, List, length, refl, Result, Ok, MatchResult}
use Rattle.std.proofs.lemmas.Result.{MatchResult-weaker}
use Rattle.font_theory.specs.Content.{Wanted}
use Rattle.font_theory.specs.Cut.{Format, cut}
use Rattle.font_theory.specs.Kinds.{format_of}
use Rattle.font_theory.specs.Tree.{union_below}
use Rattle.font_theory.specs.declared.kinds.Kind.{Kind}
use Rattle.font_theory.proofs.KindLemmas.{kind_is}
use Rattle.font_join.specs.JoinList.{AreCuts, IsAllJoined, IsAllRefusal, IsLeastOf}
use Rattle.font_join.specs.declared.join_error.JoinAllError.{JoinAllError}
use Rattle.font_join.proofs.JoinListLemmas.{cuts_refused_in_turn, laws_of_join}
use Rattle.font_join.proofs.LeastListLemmas.{true_refusal_of_all}
use Rattle.fontcut_c.specs.Inside.{IsFileInRoom, RefusesJoined}
use Rattle.fontcut_c.specs.Joining.{IsJoinInRoom, RefusesJoin, RefusesRightly}
use Rattle.fontcut_c.specs.declared.refusal.Refusal.{Refusal}
use Rattle.fontcut_c.specs.declared.refusal.Refusal.TheVariants.{BadRange, BadText, Font, Join, NoGlyph, NoMemory}
use Rattle.fontcut_c.specs.declared.refusal.Refusal.TheVariants.{Second, SmallRoom, TooLarge}

-- what all steps come to is the cut of a font of which the files are cuts, and what is refused of those is so for size
module _ (kind : Kind) (files : List (List ℕ)) where
  pub join_of_cuts : (join : List ℕ) → IsAllJoined (format_of kind) files join → (F : List ℕ) (A : ℕ → Wanted)
      → AreCuts (format_of kind) F A files → join ≡ cut (format_of kind) F (union_below A (length files))
  join_of_cuts join joined F A are =
      let made : Result (List ℕ) (Unit {0}) = Ok join in
      (laws_of_join (kind_is kind) files made (λ z v. v ≡ z) (λ _ _ _ _. Unit {0}) (join, joined, refl)).cuts F A are

  pub rightly : (error : JoinAllError) → IsAllRefusal (format_of kind) files error
      → RefusesRightly (format_of kind) files error
  rightly error refused = record {
    refused = refused;
    right = true_refusal_of_all (kind_is kind) files error refused;
    cuts = λ F A are. cuts_refused_in_turn (kind_is kind) files F A are error refused;
  }

module _ (kind : Kind) (files : List (List ℕ)) (join : List ℕ) (joined : IsAllJoined (format_of kind) files join)
    (least : IsLeastOf (format_of kind) files join) where
  abbrev R : Format
  R = format_of kind

  unjoined : (room : ℕ) (refusal : Refusal) → RefusesJoined join room refusal → RefusesJoin R files room refusal
  unjoined room (Join error) h = absurd h
  unjoined room (Font error) h = absurd h
  unjoined room (Second error) h = absurd h
  unjoined room (BadRange k) h = absurd h
  unjoined room (BadText index) h = absurd h
  unjoined room (NoGlyph index) h = absurd h
  unjoined room NoMemory h = absurd h
  unjoined room (TooLarge size) h = absurd h
  unjoined room (SmallRoom size) h = record { join = join; joined = joined; size_is = h.0; small = h.1; over = h.2 }

  pub join_answered : (old new : List ℕ) (result : Result ℕ Refusal)
      → MatchResult result (IsFileInRoom join old new) (λ refusal. (new ≡ old)
      × RefusesJoined join (length old) refusal)
      → MatchResult result (IsJoinInRoom R files old new) (λ refusal. (new ≡ old)
      × RefusesJoin R files (length old) refusal)
  join_answered old new result h =
      MatchResult-weaker result h (λ size w. record {
        join = join;
        joined = joined;
        least = least;
        cuts = join_of_cuts kind files join joined;
        small = w.small;
        written = w.written;
      }) (λ refusal p. (p.0, unjoined (length old) refusal p.1))
