-- The list of components of a record.
use Rattle.std.proofs.Common.{◌≡◌, ℕ, ◌*◌, ◌<◌, ◌≤◌, List, [], ◌++◌, length, drop, slice_index, sym, ap, subst, ◌∙◌}
use Rattle.std.proofs.Common.{arith, refl, Some, None, inl, inr, length-append, length-drop}
use Rattle.std.specs.List.{All}
use Rattle.std.specs.Option.{unwrap_or}
use Rattle.std.proofs.lemmas.Bool.{cases_lt, cases_eq, le-ltb, lt-ltb, ne_eqb}
use Rattle.std.proofs.lemmas.List.{get_or_append_left, drop-append-le, nil_from_length}
use Rattle.font_glyph.specs.declared.component.Component.{Component}
use Rattle.font_glyph.specs.Record.ComponentList.{Empty, Simple, Composite}
use Rattle.font_glyph.specs.Record.{Chain, HasList, ComponentList, IsRecord, chain_of, chain_in, components_of}
use Rattle.font_glyph.proofs.ComponentLemmas.{Chain-append, chain_of-is, chain_of-tells, length-chain}

-- what is computed of a record, by cases
components_of-empty : (b : List ℕ) → length b ≡ 0 → components_of b ≡ Some []
unfolding components_of
components_of-empty b e = rw e refl

components_of-short : (b : List ℕ) → 0 < length b → length b < 10 → components_of b ≡ None
unfolding components_of
components_of-short b some short =
    let t0 = ne_eqb (length b) 0 (λ e. absurd (omega arith)) in
    let t1 = lt-ltb (length b) 10 short in
    rw (t0, t1) refl

components_of-simple : (b : List ℕ) → 10 ≤ length b → slice_index b 0 < 0x80 → components_of b ≡ Some []
unfolding components_of
components_of-simple b long low =
    let t0 = ne_eqb (length b) 0 (λ e. absurd (omega arith)) in
    let t1 = le-ltb (length b) 10 long in
    let t2 = lt-ltb (slice_index b 0) 0x80 low in
    rw (t0, t1, t2) refl

components_of-composite : (b : List ℕ) → 10 ≤ length b → 0x80 ≤ slice_index b 0
    → components_of b ≡ chain_of (length b) (drop 10 b)
unfolding components_of
components_of-composite b long high =
    let t0 = ne_eqb (length b) 0 (λ e. absurd (omega arith)) in
    let t1 = le-ltb (length b) 10 long in
    let t2 = le-ltb (slice_index b 0) 0x80 high in
    rw (t0, t1, t2) refl

-- the list of a record is what is computed
pub components_of-is : (b : List ℕ) (list : List Component) → ComponentList b list → components_of b ≡ Some list
components_of-is b list (Empty e k) = components_of-empty b (ap length e) ∙ ap Some (sym k)
components_of-is b list (Simple h k) = components_of-simple b h.0 h.1 ∙ ap Some (sym k)
components_of-is b list (Composite h k) =
    components_of-composite b h.0 h.1 ∙ chain_of-is (length b) (drop 10 b) list k (let less = length-drop 10 b in
    omega arith)

-- what is computed is the list of a record
pub components_of-tells : (b : List ℕ) (list : List Component) → components_of b ≡ Some list → ComponentList b list
components_of-tells b list h =
    elim (cases_eq (length b) 0) [
      | inl e ↦ let k : Some [] ≡ Some list = sym (components_of-empty b e) ∙ h in let s : [] ≡ list = cc in
          Empty (nil_from_length b e) (sym s)
      | inr some ↦ elim (cases_lt (length b) 10) [
        | inl short ↦ let k : None ≡ Some list = sym (components_of-short b (omega arith) short) ∙ h in cc
        | inr long ↦ elim (cases_lt (slice_index b 0) 0x80) [
          | inl low ↦ let k : Some [] ≡ Some list = sym (components_of-simple b long low) ∙ h in let s : [] ≡ list =
              cc in Simple (long, low) (sym s)
          | inr high ↦ Composite (long, high) (chain_of-tells (length b) (drop 10 b) list
              (sym (components_of-composite b long high) ∙ h))
        ]
      ]
    ]

some_is : {A : Type 0} (x y : A) → Some x ≡ Some y → x ≡ y
some_is x y e = cc

pub ComponentList-only : (b : List ℕ) (first second : List Component) → ComponentList b first → ComponentList b second
    → first ≡ second
ComponentList-only b first second h k = some_is first second (sym (components_of-is b first h)
    ∙ components_of-is b second k)

-- bytes after a record leave its list
pub ComponentList-append : (b behind : List ℕ) (list : List Component) → 10 ≤ length b → ComponentList b list
    → ComponentList (b ++ behind) list
ComponentList-append b behind list long (Empty e k) = let none = ap length e in absurd (omega arith)
ComponentList-append b behind list long (Simple h k) =
    let more = length-append b behind in
    let same = get_or_append_left b behind 0 0 (omega arith) in
    let low = h.1 in
    Simple (omega arith, omega arith) k
ComponentList-append b behind list long (Composite h k) =
    let more = length-append b behind in
    let same = get_or_append_left b behind 0 0 (omega arith) in
    let high = h.1 in
    Composite (omega arith, omega arith) (subst (λ (t : List ℕ). Chain t list) (sym (drop-append-le 10 b behind long))
    (Chain-append (drop 10 b) behind list k))

-- a component takes six bytes at least
pub length-list : (b : List ℕ) (list : List Component) → ComponentList b list → 6 * length list ≤ length b
length-list b list (Empty e k) = let none : length list ≡ 0 = ap length k in omega arith
length-list b list (Simple h k) = let none : length list ≡ 0 = ap length k in omega arith
length-list b list (Composite h k) = let few = length-chain (drop 10 b) list k in let less = length-drop 10 b in
    omega arith

-- the list of a composite
pub ComponentList-composite : (b : List ℕ) → HasList b → 0 < length b → 0x80 ≤ slice_index b 0
    → ComponentList b (chain_in (drop 10 b))
unfolding HasList
ComponentList-composite b (list, Empty e k) some high = let none = ap length e in absurd (omega arith)
ComponentList-composite b (list, Simple h k) some high = let low = h.1 in absurd (omega arith)
ComponentList-composite b (list, Composite h k) some high =
    let is : chain_in (drop 10 b) ≡ list =
    ap (λ o. unwrap_or o []) (chain_of-is (length (drop 10 b)) (drop 10 b) list k (omega arith)) in
    Composite h (subst (Chain (drop 10 b)) (sym is) k)

-- a record whose list is seen
pub IsRecord-list : (n : ℕ) (b : List ℕ) (list : List Component) → IsRecord n b → ComponentList b list
    → All (λ c. c.glyph < n) list
unfolding IsRecord
IsRecord-list n b list h k = subst (All (λ c. c.glyph < n)) (ComponentList-only b h.0 list h.1 k) h.2

pub IsRecord-has_list : (n : ℕ) (b : List ℕ) → IsRecord n b → HasList b
unfolding IsRecord HasList
IsRecord-has_list n b h = (h.0, h.1)
