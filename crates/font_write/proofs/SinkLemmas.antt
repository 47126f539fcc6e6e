-- What an outlet says as a sink.
use Rattle.std.proofs.Common.{ℕ, ◌++◌, List, take, drop, Option, None, Some, refl, ◌∙◌, ap, append_assoc}
use Rattle.std.specs.Io.KnownBytes.{Appends}
use Rattle.std.proofs.lemmas.List.{take-append-drop}
use Rattle.font_write.specs.Trace.{IsFront}

-- a front of bytes that was appended
pub front_appended : (old new : Option (List ℕ)) (n : ℕ) (bytes : List ℕ) → Appends old new (take n bytes)
    → IsFront old new bytes
front_appended None new n bytes h = tt
front_appended (Some x) None n bytes h = absurd h
front_appended (Some x) (Some y) n bytes h = (
  y,
  refl,
  record {
    rest = drop n bytes;
    whole = ap (λ (b : List ℕ). b ++ drop n bytes) h
        ∙ append_assoc x (take n bytes) (drop n bytes) ∙ ap (λ (b : List ℕ). x ++ b) (take-append-drop n bytes);
  },
)
