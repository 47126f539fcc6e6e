-- What is counted of a walk: all of it, where there is no fault and there are no more steps than may be.
use Rattle.std.proofs.Common.{◌≡◌, ℕ, ◌+◌, ◌-◌, ◌<◌, ◌≤◌, ◌||◌, not, Bool, true, false, ltb, List, [], ◌∷◌, length}
use Rattle.std.proofs.Common.{sym, ap, refl, ◌∙◌, arith, inl, inr}
use Rattle.std.specs.List.{AllByRecursion, list_any}
use Rattle.std.specs.Option.{IfSome, is_some}
use Rattle.std.proofs.lemmas.Bool.{cases_eq, cases_lt, eq-eqb, le-ltb, lt-ltb, ne_eqb}
use Rattle.std.proofs.lemmas.Option.{IfSome_then}
use Rattle.font_layout.specs.Inside.{IsOfGlyphs, after_all, after_step, with_number}
use Rattle.font_layout.specs.Layout.{is_fault, links_among, step_count}
use Rattle.font_layout.specs.declared.step.Link.{Link}
use Rattle.font_layout.specs.declared.step.Step.{Step}
use Rattle.font_layout.specs.declared.step.Step.TheVariants.{Part, Leads, Fault}
use Rattle.font_layout.specs.declared.tally.Tally.{Tally}

-- what is left after some steps is too few for the rest where all were too few
left_less : (left n rest : ℕ) → n ≤ left → ltb (left - n) rest ≡ ltb left (n + rest)
left_less left n rest few =
    elim (cases_lt (left - n) rest) [
      | inl low ↦ lt-ltb (left - n) rest low ∙ sym (lt-ltb left (n + rest) (omega (arith, few, low)))
      | inr high ↦ le-ltb (left - n) rest high ∙ sym (le-ltb left (n + rest) (omega (arith, few, high)))
    ]

too_many : (left n rest : ℕ) (fault : Bool) → left < n → false ≡ not (fault || ltb left (n + rest))
too_many left n rest fault low =
    let past : ltb left (n + rest) ≡ true = lt-ltb left (n + rest) (omega (arith, low)) in
    rw past (elim fault as (λ b. false ≡ not (b || true)) [
      | true ↦ refl
      | false ↦ refl
    ])

-- what is counted after a part, and after a link
abbrev after_part : Tally → ℕ → Tally
after_part tally n = record { left = tally.left - n; links = tally.links; numbers = tally.numbers }

abbrev after_link : Tally → Link → Tally
after_link tally link =
    record {
      left = tally.left - 1;
      links = tally.links + 1;
      numbers = with_number (with_number tally.numbers link.from) link.to;
    }

pub counted_all : (steps : List Step) (tally : Tally)
    → is_some (after_all tally steps) ≡ not (list_any is_fault steps || ltb tally.left (step_count steps))
unfolding after_step
counted_all [] tally = let none = le-ltb tally.left 0 (omega arith) in rw none refl
counted_all (Part n ∷ steps) tally =
    elim (cases_lt tally.left n) [
      | inl low ↦
          let stop = lt-ltb tally.left n low in
          rw stop (too_many tally.left n (step_count steps) (list_any is_fault steps) low)
      | inr few ↦
          let go = le-ltb tally.left n few in
          rw go (counted_all steps (after_part tally n)
          ∙ ap (λ b. not (list_any is_fault steps || b)) (left_less tally.left n (step_count steps) few))
    ]
counted_all (Leads link ∷ steps) tally =
    elim (cases_eq tally.left 0) [
      | inl none ↦
          let stop = eq-eqb tally.left 0 none in
          rw stop (too_many tally.left 1 (step_count steps) (list_any is_fault steps) (omega (arith, none)))
      | inr some ↦
          let go = ne_eqb tally.left 0 some in
          let one : 1 ≤ tally.left = omega (arith, some) in
          rw go (counted_all steps (after_link tally link)
          ∙ ap (λ b. not (list_any is_fault steps || b)) (left_less tally.left 1 (step_count steps) one))
    ]
counted_all (Fault ∷ steps) tally = refl

pub counted_links : (steps : List Step) (tally : Tally)
    → IfSome (after_all tally steps) (λ t. t.links ≡ tally.links + length (links_among steps))
unfolding after_step
counted_links [] tally = omega arith
counted_links (Part n ∷ steps) tally =
    elim (cases_lt tally.left n) [
      | inl low ↦ let stop = lt-ltb tally.left n low in rw stop tt
      | inr few ↦ let go = le-ltb tally.left n few in rw go (counted_links steps (after_part tally n))
    ]
counted_links (Leads link ∷ steps) tally =
    elim (cases_eq tally.left 0) [
      | inl none ↦ let stop = eq-eqb tally.left 0 none in rw stop tt
      | inr some ↦
          let go = ne_eqb tally.left 0 some in
          rw go (IfSome_then (after_all (after_link tally link) steps) (counted_links steps (after_link tally link))
          (λ t is. omega (arith, is)))
    ]
counted_links (Fault ∷ steps) tally = tt

number_more : (count g : ℕ) → (count ≤ with_number count g) × (g < with_number count g)
number_more count g =
    elim (cases_lt g count) [
      | inl low ↦ let is = lt-ltb g count low in rw is (omega arith, low)
      | inr high ↦ let is = le-ltb g count high in rw is (omega (arith, high), omega arith)
    ]

pub counted_numbers : (steps : List Step) (tally : Tally)
    → IfSome (after_all tally steps) (λ t. (tally.numbers ≤ t.numbers)
    × AllByRecursion (IsOfGlyphs t.numbers) (links_among steps))
unfolding after_step
counted_numbers [] tally = (omega arith, tt)
counted_numbers (Part n ∷ steps) tally =
    elim (cases_lt tally.left n) [
      | inl low ↦ let stop = lt-ltb tally.left n low in rw stop tt
      | inr few ↦ let go = le-ltb tally.left n few in rw go (counted_numbers steps (after_part tally n))
    ]
counted_numbers (Leads link ∷ steps) tally =
    elim (cases_eq tally.left 0) [
      | inl none ↦ let stop = eq-eqb tally.left 0 none in rw stop tt
      | inr some ↦
          let go = ne_eqb tally.left 0 some in
          let from = number_more tally.numbers link.from in
          let to = number_more (with_number tally.numbers link.from) link.to in
          rw go (IfSome_then (after_all (after_link tally link) steps) (counted_numbers steps (after_link tally link))
          (λ t is. (
            omega (arith, from.0, to.0, is.0),
            (
              record {
                from = omega (arith, from.1, to.0, is.0);
                to = omega (arith, to.1, is.0);
              },
              is.1,
            ),
          )))
    ]
counted_numbers (Fault ∷ steps) tally = tt
