-- Room that is filled from the front, and the first byte that finds none.
use Rattle.std.proofs.Common.{◌≡◌, ℕ, suc, ◌+◌, ◌<◌, ◌≤◌, Bool, true, List, [], ◌∷◌, ◌++◌, get_or, length, take, drop}
use Rattle.std.proofs.Common.{refl, sym, ◌∙◌, ap, arith}
use Rattle.std.proofs.Math.Seq.{drop-cons, take-length}
use Rattle.std.proofs.lemmas.List.{append_assoc, length-take-le, take-append-drop}
use Rattle.font_write.specs.Trace.{IsPrefix, SentFront}
use Rattle.fontcut_c.specs.Inside.{filling}

module _ (name at odd : ℕ) (stopped : Bool) (out new bytes : List ℕ) (fit : ℕ) (within : at ≤ length out)
    (full : at + fit ≡ length out) (long : length new ≡ length out) (more : fit < length bytes)
    (is : take (at + fit) new ≡ take at out ++ take fit bytes) where
  all_filled : new ≡ take at out ++ take fit bytes
  all_filled = sym (take-length new) ∙ (ap (λ (n : ℕ). take n new) (long ∙ sym full) ∙ is)

  shown_front : IsPrefix (new ++ get_or bytes fit 0 ∷ []) (take at out ++ bytes)
  shown_front =
      record {
        rest = drop (suc fit) bytes;
        whole =
            append_assoc new (get_or bytes fit 0 ∷ []) (drop (suc fit) bytes)
            ∙ (ap (λ (b : List ℕ). new ++ b) (sym (drop-cons bytes fit 0 more))
            ∙ (ap (λ (b : List ℕ). b ++ drop fit bytes) all_filled
            ∙ (append_assoc (take at out) (take fit bytes) (drop fit bytes)
            ∙ ap (λ (b : List ℕ). take at out ++ b) (take-append-drop fit bytes))));
      }

  pub stops : SentFront (filling name out at odd stopped) (filling name new (at + fit) (get_or bytes fit 0) true) bytes
  stops =
      record {
        front = take fit bytes;
        is_front = record { rest = drop fit bytes; whole = take-append-drop fit bytes };
        fixed = ap (λ (n : ℕ). name ∷ n ∷ []) long;
        count = ap (λ (n : ℕ). at + n) (sym (length-take-le fit bytes (omega (arith, more))));
        taken = is;
        shown = (new ++ get_or bytes fit 0 ∷ [], refl, shown_front);
        stopped = refl;
      }
