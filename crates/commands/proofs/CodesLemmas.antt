-- The ranges of the mapped codes, and the words that name them.
use Rattle.std.proofs.Common.{◌≡◌, ◌≢◌, ℕ, zero, suc, ◌+◌, ◌/◌, ◌%◌, ◌^◌, ◌<◌, ◌≤◌, ◌||◌, ◌&&◌, nat_lt, eqb, Bool, true}
use Rattle.std.proofs.Common.{false, cond, List, [], ◌∷◌, ◌++◌, All, length, refl, sym, ap, subst, ◌∙◌, arith, inl, inr}
use Rattle.std.proofs.Common.{eq-eqb, ne_eqb}
use Rattle.std.proofs.lemmas.Bool.{cases_lt, cond_both}
use Rattle.std.proofs.lemmas.Bool.Decides.{nat_tests}
use Rattle.std.proofs.lemmas.Fmt.{digits_is_IsNumeral}
use Rattle.std.proofs.lemmas.List.Elements.{All-cons}
use Rattle.std.specs.Fmt.{digits, digit_glyph, digits_onto}
use Rattle.std.specs.List.{list_all}
use Rattle.std.specs.Str.Parse.{AllDigits}
use Rattle.codes.proofs.RunLemmas.{groups_done, groups_from-runs, groups_next, run_gives}
use Rattle.codes.specs.CharacterMap.{IsCharacterMap, is_mapped}
use Rattle.codes.specs.Runs.{AreRuns, IsRun, NoRun, groups_from}
use Rattle.codes.specs.Wanted.{AreSeparate, codes_between, member}
use Rattle.codes.specs.Word.{IsWord, SpellsCode, code_word, is_hexadecimal}
use Rattle.codes.specs.declared.code_range.CodeRange.{CodeRange}
use Rattle.codes.specs.declared.runs.Run.{Run}
use Rattle.commands.specs.Codes.{CodesLaws, IsReadBack, code_ranges, range_of_run, ranges_of, ranges_on}

-- a range from one code to another
abbrev pub range_to : ℕ → ℕ → CodeRange
range_to first last = record { first = first; last = last }

-- a run that touches a range goes on with it
on_yes : (range : CodeRange) (run : Run) (runs : List Run) → run.first ≡ range.last + 1
    → ranges_on range (run ∷ runs) ≡ ranges_on (range_to range.first run.last) runs
on_yes range run runs e =
    ap (λ (t : Bool). cond t (ranges_on (range_to range.first run.last) runs)
    (range ∷ ranges_on (range_of_run run) runs))
    (eq-eqb run.first (range.last + 1) e)

on_no : (range : CodeRange) (run : Run) (runs : List Run) → run.first ≢ range.last + 1
    → ranges_on range (run ∷ runs) ≡ range ∷ ranges_on (range_of_run run) runs
on_no range run runs e =
    ap (λ (t : Bool). cond t (ranges_on (range_to range.first run.last) runs)
    (range ∷ ranges_on (range_of_run run) runs))
    (ne_eqb run.first (range.last + 1) e)

-- the walk from run to run: what is left of the ranges from a code on
pub record Walks (m : ℕ → ℕ) (from first last : ℕ) : Type 0 where
  pub low : from ≤ last
  pub high : last ≤ 0x10FFFF
  pub rest : code_ranges m from ≡ ranges_on (range_to first last) (groups_from m (last + 1))

pub walk_start : (m : ℕ → ℕ) (from : ℕ) (run : Run) → IsCharacterMap m → IsRun m from run
    → Walks m from run.first run.last
unfolding code_ranges
walk_start m from run ok h = record {
  low = omega (arith, h.piece.from_on, h.piece.order);
  high = h.piece.within;
  rest = ap ranges_of (groups_next m from run ok h);
}

pub walk_on : (m : ℕ → ℕ) (from first last : ℕ) (run : Run) → IsCharacterMap m → Walks m from first last
    → IsRun m (last + 1) run → run.first ≡ last + 1 → Walks m from first run.last
walk_on m from first last run ok w h e = record {
  low = omega (arith, w.low, h.piece.order, e);
  high = h.piece.within;
  rest = w.rest ∙ ap (ranges_on (range_to first last)) (groups_next m (last + 1) run ok h)
      ∙ on_yes (range_to first last) run (groups_from m (run.last + 1)) e;
}

pub walk_apart : (m : ℕ → ℕ) (from first last : ℕ) (run : Run) → IsCharacterMap m → Walks m from first last
    → IsRun m (last + 1) run → run.first ≢ last + 1 → code_ranges m from ≡ range_to first last
    ∷ code_ranges m (last + 1)
unfolding code_ranges
walk_apart m from first last run ok w h e =
    let next = groups_next m (last + 1) run ok h in
    w.rest ∙ ap (ranges_on (range_to first last)) next ∙ on_no (range_to first last) run (groups_from m (run.last + 1))
    e
    ∙ ap (λ (runs : List Run). range_to first last ∷ ranges_of runs) (sym next)

pub none_left : (m : ℕ → ℕ) (from : ℕ) → IsCharacterMap m → NoRun m from → code_ranges m from ≡ []
unfolding code_ranges
none_left m from ok none = ap ranges_of (groups_done m from ok none)

pub walk_end : (m : ℕ → ℕ) (from first last : ℕ) → IsCharacterMap m → Walks m from first last → NoRun m (last + 1)
    → code_ranges m from ≡ range_to first last ∷ code_ranges m (last + 1)
walk_end m from first last ok w none =
    w.rest ∙ ap (ranges_on (range_to first last)) (groups_done m (last + 1) ok none)
    ∙ ap (λ (ranges : List CodeRange). range_to first last ∷ ranges) (sym (none_left m (last + 1) ok none))

-- the ranges lie apart
on-separate : (m : ℕ → ℕ) (low : ℕ) (range : CodeRange) (runs : List Run) → low ≤ range.first → range.first ≤ range.last
    → AreRuns m (range.last + 1) runs → AreSeparate low (ranges_on range runs)
on-separate m low range [] a b h = (a, b, tt)
on-separate m low range (run ∷ runs) a b h =
    elim (cases_lt (range.last + 1) run.first) [
      | inl x ↦ subst (AreSeparate low) (sym (on_no range run runs (λ e. omega (arith, e, x))))
          (a, b, on-separate m (range.last + 2) (range_of_run run) runs (omega (arith, x)) h.0.piece.order h.1)
      | inr x ↦ subst (AreSeparate low) (sym (on_yes range run runs (omega (arith, x, h.0.piece.from_on))))
          (on-separate m low (range_to range.first run.last) runs a (omega (
            arith,
            b,
            h.0.piece.from_on,
            h.0.piece.order,
          )) h.1)
    ]

-- what lies in a range, and what does not
between_yes : (a b c : ℕ) → a ≤ c → c ≤ b → codes_between a b c ≡ true
between_yes a b c x y = grind (arith, nat_tests)

between_below : (a b c : ℕ) → c < a → codes_between a b c ≡ false
between_below a b c x = grind (arith, nat_tests)

between_above : (a b c : ℕ) → b < c → codes_between a b c ≡ false
between_above a b c x = grind (arith, nat_tests)

member_first : (range : CodeRange) (ranges : List CodeRange) (c : ℕ) → range.first ≤ c → c ≤ range.last
    → member (range ∷ ranges) c ≡ true
member_first range ranges c x y = ap (λ (t : Bool). t || member ranges c) (between_yes range.first range.last c x y)

member_above : (range : CodeRange) (ranges : List CodeRange) (c : ℕ) → range.last < c
    → member (range ∷ ranges) c ≡ member ranges c
member_above range ranges c x = ap (λ (t : Bool). t || member ranges c) (between_above range.first range.last c x)

member_below : (low : ℕ) (ranges : List CodeRange) (c : ℕ) → AreSeparate low ranges → c < low → member ranges c ≡ false
member_below low [] c o x = refl
member_below low (range ∷ ranges) c o x =
    ap (λ (t : Bool). t || member ranges c) (between_below range.first range.last c (omega (arith, o.0, x)))
    ∙ member_below (range.last + 2) ranges c o.2 (omega (arith, o.0, o.1, x))

pub mapped_no : (m : ℕ → ℕ) (c : ℕ) → m c ≡ 0 → is_mapped m c ≡ false
mapped_no m c e = ap (nat_lt 0) e

pub run-mapped : (m : ℕ → ℕ) (from : ℕ) (run : Run) → IsRun m from run → (c : ℕ) → run.first ≤ c → c ≤ run.last
    → is_mapped m c ≡ true
run-mapped m from run h c x y =
    let some : 0 < m c = omega (arith, run_gives m from run h c x y, h.piece.mapped) in
    grind (arith, nat_tests)

-- all codes of a range are mapped
abbrev AreMapped : (ℕ → ℕ) → ℕ → ℕ → Type 0
AreMapped m first last = (c : ℕ) → first ≤ c → c ≤ last → is_mapped m c ≡ true

-- the ranges have the mapped codes and no others
on-exact : (m : ℕ → ℕ) (range : CodeRange) (runs : List Run) (c : ℕ) → range.first ≤ range.last
    → AreMapped m range.first range.last → AreRuns m (range.last + 1) runs → range.first ≤ c
    → member (ranges_on range runs) c ≡ is_mapped m c
on-exact m range [] c o all h x =
    elim (cases_lt range.last c) [
      | inl y ↦ member_above range [] c y ∙ sym (mapped_no m c (h c (omega (arith, y))))
      | inr y ↦ member_first range [] c x y ∙ sym (all c x y)
    ]
on-exact m range (run ∷ runs) c o all h x =
    elim (cases_lt (range.last + 1) run.first) [
      | inl z ↦ ap (λ (ranges : List CodeRange). member ranges c) (on_no range run runs (λ e. omega (arith, e, z)))
          ∙ elim (cases_lt range.last c) [
            | inl y ↦ member_above range (ranges_on (range_of_run run) runs) c y
                ∙ elim (cases_lt c run.first) [
                  | inl w ↦ member_below run.first (ranges_on (range_of_run run) runs) c
                      (on-separate m run.first (range_of_run run) runs (omega arith) h.0.piece.order h.1) w
                      ∙ sym (mapped_no m c (h.0.piece.least c (omega (arith, y)) w))
                  | inr w ↦ on-exact m (range_of_run run) runs c h.0.piece.order
                      (run-mapped m (range.last + 1) run h.0) h.1
                      w
                ]
            | inr y ↦ member_first range (ranges_on (range_of_run run) runs) c x y ∙ sym (all c x y)
          ]
      | inr z ↦
          let touches : run.first ≡ range.last + 1 = omega (arith, z, h.0.piece.from_on) in
          ap (λ (ranges : List CodeRange). member ranges c) (on_yes range run runs touches)
          ∙ on-exact m (range_to range.first run.last) runs c (omega (arith, o, touches, h.0.piece.order))
          (λ k a b. elim (cases_lt range.last k) [
            | inl y ↦ run-mapped m (range.last + 1) run h.0 k (omega (arith, y, touches)) b
            | inr y ↦ all k a y
          ])
          h.1 x
    ]

-- a number below a power of 16 has few digits
few_digits : (k j n : ℕ) (acc : List ℕ) → n < 16 ^ suc j → length (digits_onto k 16 true n acc) ≤ suc j + length acc
few_digits zero j n acc h = omega arith
few_digits (suc k) zero n acc h =
    let none : n / 16 ≡ 0 = omega (arith, h) in
    subst (λ (t : Bool). length (cond t (digit_glyph true (n % 16) ∷ acc)
    (digits_onto k 16 true (n / 16) (digit_glyph true (n % 16) ∷ acc))) ≤ suc zero + length acc)
    (sym (eq-eqb (n / 16) 0 none)) (omega arith)
few_digits (suc k) (suc j) n acc h =
    let less : n / 16 < 16 ^ suc j = omega (arith, h) in
    cond_both (eqb (n / 16) 0) (digit_glyph true (n % 16) ∷ acc)
    (digits_onto k 16 true (n / 16) (digit_glyph true (n % 16) ∷ acc))
    (λ (ds : List ℕ). length ds ≤ suc (suc j) + length acc) (λ t. omega arith)
    (λ f. omega (arith, few_digits k j (n / 16) (digit_glyph true (n % 16) ∷ acc) less))

digits-few : (n : ℕ) → n ≤ 0x10FFFF → length (digits 16 true n) ≤ 6
unfolding digits
digits-few n h = omega (arith, few_digits 64 5 n [] (omega (arith, h)))

all-hexadecimal : (ds : List ℕ) → AllDigits 16 ds → list_all is_hexadecimal ds ≡ true
all-hexadecimal [] h = refl
all-hexadecimal (d ∷ ds) h =
    let digit : is_hexadecimal d ≡ true = grind (arith, nat_tests, h.0) in
    ap (λ (t : Bool). t && list_all is_hexadecimal ds) digit ∙ all-hexadecimal ds h.1

-- the digits of a code spell it
digits-spell : (n : ℕ) → n ≤ 0x10FFFF → SpellsCode (digits 16 true n) n
digits-spell n h =
    let numeral = digits_is_IsNumeral 16 true (omega arith) (omega arith) n (omega (arith, h)) in
    record {
      some = omega (arith, numeral.0.0);
      few = digits-few n h;
      hexadecimal = all-hexadecimal (digits 16 true n) numeral.0.1;
      value = numeral.1;
    }

-- the word of a range names it
pub word-reads : (range : CodeRange) → range.first ≤ range.last → range.last ≤ 0x10FFFF → IsReadBack range
word-reads range o w =
    let first = digits-spell range.first (omega (arith, o, w)) in
    let last = digits-spell range.last w in
    record {
      word = elim (cases_lt range.first range.last) [
        | inl x ↦ subst (λ (t : Bool). IsWord (cond t (code_word range.first) (code_word range.first ++ 45
            ∷ digits 16 true range.last)) range.first range.last)
            (sym (ne_eqb range.first range.last (λ e. omega (arith, e, x))))
            (inr (record {
              behind = digits 16 true range.first ++ 45 ∷ digits 16 true range.last;
              begins = refl;
              codes_are = inr (record {
                front = digits 16 true range.first;
                back = digits 16 true range.last;
                parts = refl;
                first_is = first;
                last_is = last;
              });
            }))
        | inr x ↦
            let same : range.first ≡ range.last = omega (arith, o, x) in
            subst (λ (t : Bool). IsWord (cond t (code_word range.first) (code_word range.first ++ 45
            ∷ digits 16 true range.last)) range.first range.last) (sym (eq-eqb range.first range.last same))
            (inr (record { behind = digits 16 true range.first; begins = refl; codes_are = inl (first, same) }))
      ];
      good = λ bad. elim bad [ inl x ↦ omega (arith, x, o) | inr x ↦ omega (arith, x, w) ];
    }

on-read : (m : ℕ → ℕ) (range : CodeRange) (runs : List Run) → range.first ≤ range.last → range.last ≤ 0x10FFFF
    → AreRuns m (range.last + 1) runs → All IsReadBack (ranges_on range runs)
on-read m range [] o w h = All-cons IsReadBack range [] (word-reads range o w) (λ k d lt. absurd (omega (arith, lt)))
on-read m range (run ∷ runs) o w h =
    elim (cases_lt (range.last + 1) run.first) [
      | inl x ↦ subst (All IsReadBack) (sym (on_no range run runs (λ e. omega (arith, e, x))))
          (All-cons IsReadBack range (ranges_on (range_of_run run) runs) (word-reads range o w)
          (on-read m (range_of_run run) runs h.0.piece.order h.0.piece.within h.1))
      | inr x ↦ subst (All IsReadBack) (sym (on_yes range run runs (omega (arith, x, h.0.piece.from_on))))
          (on-read m (range_to range.first run.last) runs (omega (arith, o, h.0.piece.from_on, h.0.piece.order))
          h.0.piece.within h.1)
    ]

-- all of it, for the runs from code 0 on
of-runs : (m : ℕ → ℕ) (runs : List Run) → AreRuns m 0 runs → AreSeparate 0 (ranges_of runs)
    × ((c : ℕ) → member (ranges_of runs) c ≡ is_mapped m c) × All IsReadBack (ranges_of runs)
of-runs m [] h = (tt, λ c. sym (mapped_no m c (h c (omega arith))), λ k d lt. absurd (omega (arith, lt)))
of-runs m (run ∷ runs) h = (
  on-separate m 0 (range_of_run run) runs (omega arith) h.0.piece.order h.1,
  (λ c. elim (cases_lt c run.first) [
    | inl x ↦ member_below run.first (ranges_on (range_of_run run) runs) c
        (on-separate m run.first (range_of_run run) runs
        (omega arith) h.0.piece.order h.1) x
        ∙ sym (mapped_no m c (h.0.piece.least c (omega arith) x))
    | inr x ↦ on-exact m (range_of_run run) runs c h.0.piece.order (run-mapped m 0 run h.0) h.1 x
  ]),
  on-read m (range_of_run run) runs h.0.piece.order h.0.piece.within h.1,
)

pub laws : (m : ℕ → ℕ) → IsCharacterMap m → CodesLaws m
unfolding code_ranges
laws m ok =
    let all = of-runs m (groups_from m 0) (groups_from-runs m 0 ok) in
    record { separate = all.0; exact = all.1; words = all.2 }
