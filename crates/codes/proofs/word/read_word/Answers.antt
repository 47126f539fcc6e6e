use Rattle.std.proofs.Common.{sym, ap, ◌∙◌, ◌∷◌, ℕ, List, inl, inr}
use Rattle.codes.specs.Word.{IsCodeWord}
use Rattle.codes.proofs.WordLemmas.{word_behind}
use Rattle.codes.proofs.word.read_word.Goals as goal

pub returns-in_default-read_codes : goal.returns-in_default-read_codes
returns-in_default-read_codes c =
    let found = c.in-Some.ensures.cases in
    λ first last h. c.in_default-read_codes.ensures first last (word_behind _ _ first last (found.1.1
    ∙ ap (λ (t : List ℕ). 85 ∷ 43 ∷ t) (sym found.2)) h)

pub returns-then-last-first : goal.returns-then-last-first
returns-then-last-first c =
    let found = c.in-Some.ensures.cases in
    let word : IsCodeWord c.args.word.now c.in-Some-read_codes.first c.in-Some-read_codes.last =
    record {
      behind = c.in-Some.text.now;
      begins = found.1.1 ∙ ap (λ (t : List ℕ). 85 ∷ 43 ∷ t) (sym found.2);
      codes_are = c.in-Some-read_codes.ensures;
    } in (
      c.in-Some-read_codes.first,
      c.in-Some-read_codes.last,
      inr word,
      elim c.then-last-first.either [
        | inl x ↦
            inl x
        | inr x ↦ inr x.1
      ],
    )
