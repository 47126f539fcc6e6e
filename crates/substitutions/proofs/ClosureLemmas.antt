-- What runs make of what is wanted is in the closure of what is wanted.
use Rattle.std.proofs.Common.{◌≡◌, ℕ, ◌<◌, true, false, inl, inr, List, [], ◌∷◌, get_or, length, ltb, refl}
use Rattle.std.proofs.Common.{subst, arith}
use Rattle.std.specs.List.{All, Contains}
use Rattle.std.proofs.lemmas.Bool.{both_ways, cases_Bool, lt-ltb}
use Rattle.sfnt_bytes.specs.Number.{u16_at}
use Rattle.font_glyph.specs.Linked.Linked.{start, link}
use Rattle.font_layout.specs.Layout.{is_bad_layout}
use Rattle.font_layout.proofs.LawLemmas.{leads_of-has}
use Rattle.font_theory.specs.Closed.{NUMBERS, closed, is_start}
use Rattle.font_theory.specs.Content.{Wanted}
use Rattle.font_theory.specs.Links.{is_unreadable_gsub, links}
use Rattle.font_theory.proofs.ClosedLemmas.{closed-decides}
use Rattle.substitutions.specs.Lookups.{IsListed}
use Rattle.substitutions.specs.Shaping.{BecomesInSteps}
use Rattle.substitutions.specs.Substitution.{FormsLigature, Replaces}
use Rattle.substitutions.proofs.NoneLemmas.{none_formed, none_replaced}
use Rattle.substitutions.proofs.NumberLemmas.{formed_low, replaced_low}
use Rattle.substitutions.proofs.ReplaceLemmas.{formed_linked, replaced_linked}
use Rattle.substitutions.proofs.RunLemmas.{AreSteps, run_within}

-- no table, no steps
none_listed : (kind at : ℕ) → IsListed [] kind at → ⊥
unfolding u16_at
none_listed kind at l = let some = l.lookup_list_offset.some in absurd (omega arith)

-- an accepted table has the steps by its links between numbers of 16 bits, and so has none
module _ (table : List ℕ) (bytes : All (λ byte. byte < 256) table) where
  abbrev Leads : ℕ → ℕ → Type 0
  Leads g h = Contains (links table g) h × (g < 65536)

  read_steps : is_bad_layout table ≡ false → AreSteps table Leads
  unfolding links
  read_steps accepted =
      record {
        replaces = λ g outputs r k d low.
            let w = replaced_low table bytes r in
            let h : ℕ = get_or outputs k d in
            (leads_of-has table 65536 g h (w.0, w.1 k d low, replaced_linked table accepted r k d low), w.0);
        forms = λ g others formed l.
            let w = formed_low table bytes l in
            (leads_of-has table 65536 g formed (w.0, w.1, formed_linked table accepted l), w.0);
      }

  no_steps : table ≡ [] → AreSteps table Leads
  no_steps none =
      record {
        replaces = λ g outputs r. absurd (none_replaced [] none_listed
            (subst (λ (t : List ℕ). Replaces t g outputs) none r));
        forms = λ g others formed l. absurd (none_formed [] none_listed
            (subst (λ (t : List ℕ). FormsLigature t g others formed) none l));
      }

  readable_steps : is_unreadable_gsub table ≡ false → AreSteps table Leads
  unfolding is_unreadable_gsub
  readable_steps readable =
      elim (cases_Bool (is_bad_layout table)) [
        | inl bad ↦ no_steps (empty table (λ some. both_ways _ readable (rw (some, bad) refl)))
        | inr good ↦ read_steps good
      ]
    where
      empty : (xs : List ℕ) → (ltb 0 (length xs) ≡ true → ⊥) → xs ≡ []
      empty [] h = refl
      empty (x ∷ xs) h = absurd (h (lt-ltb 0 (length (x ∷ xs)) (omega arith)))

  pub run_wanted : is_unreadable_gsub table ≡ false → (m : ℕ → ℕ) (W : Wanted) (list last : List ℕ)
      → BecomesInSteps table list last → All (λ g. is_start m W g ≡ true) list
      → All (λ g. (closed (links table) m W).glyphs g ≡ true) last
  unfolding NUMBERS
  run_wanted readable m W list last run all =
      run_within table Leads (readable_steps readable) (closed (links table) m W).glyphs
      (λ g h has led. (closed-decides (links table) m W h).1
      (link ((closed-decides (links table) m W g).0 has) led.1 led.0))
      run (λ k d low. (closed-decides (links table) m W (get_or list k d)).1 (start (all k d low)))
