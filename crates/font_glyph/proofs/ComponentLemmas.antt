-- Components at the front of bytes: which they are, and what is left of the bytes after one.
use Rattle.std.proofs.Common.{◌≡◌, ℕ, zero, suc, ◌+◌, ◌*◌, ◌<◌, ◌≤◌, ◌⊎◌, Bool, true, false, if◌then◌else◌, nat_lt}
use Rattle.std.proofs.Common.{List, [], ◌∷◌, ◌++◌, length, drop, sym, ap, subst, ◌∙◌, arith, refl, Option, Some, None}
use Rattle.std.proofs.Common.{inl, inr, length-append, length-drop}
use Rattle.std.specs.List.{All}
use Rattle.std.specs.Option.{option_map, unwrap_or}
use Rattle.std.proofs.lemmas.Bool.{cases_Bool, le-ltb, ltb-false}
use Rattle.std.proofs.lemmas.List.{get_or_append_left, drop-append-le}
use Rattle.std.proofs.lemmas.List.Elements.{All-from_recursion, recursion_from_All}
use Rattle.sfnt_bytes.specs.Number.{u16_at}
use Rattle.font_glyph.specs.declared.component.Component.{Component}
use Rattle.font_glyph.specs.Component.{StartsWith, component_size, first_component, has_more}
use Rattle.font_glyph.specs.Record.{Chain, HasChain, IsChain, chain_of, chain_in}

pub component_size-least : (flags : ℕ) → 6 ≤ component_size flags
unfolding component_size
component_size-least flags = grind (arith)

-- the component that bytes begin with is the one that is read off them
pub first_component-is : (r : List ℕ) (c : Component) → StartsWith r c → first_component r ≡ c
first_component-is r c h = λ i. record { flags = sym h.flags i; glyph = sym h.glyph i }

pub first_component-only : (r : List ℕ) (c d : Component) → StartsWith r c → StartsWith r d → c ≡ d
first_component-only r c d h k = sym (first_component-is r c h) ∙ first_component-is r d k

pub u16_at-append : (r z : List ℕ) (i : ℕ) → i + 1 < length r → u16_at (r ++ z) i ≡ u16_at r i
unfolding u16_at
u16_at-append r z i h =
    let h0 : i < length r = omega arith in
    let e0 = get_or_append_left r z 0 i h0 in
    let e1 = get_or_append_left r z 0 (i + 1) h in
    cc

pub StartsWith-append : (r z : List ℕ) (c : Component) → StartsWith r c → StartsWith (r ++ z) c
StartsWith-append r z c h =
    let least = component_size-least c.flags in
    let whole = h.whole in
    let long = length-append r z in
    record {
      flags = h.flags ∙ sym (u16_at-append r z 0 (omega arith));
      glyph = h.glyph ∙ sym (u16_at-append r z 2 (omega arith));
      whole = omega arith;
    }

-- bytes after a chain leave it
pub Chain-append : (r z : List ℕ) (list : List Component) → Chain r list → Chain (r ++ z) list
Chain-append r z [] h = h
Chain-append r z (c ∷ []) h = (StartsWith-append r z c h.0, h.1)
Chain-append r z (c ∷ d ∷ list) h =
    let cut : drop (component_size c.flags) (r ++ z) ≡ drop (component_size c.flags) r ++ z =
    drop-append-le _ r z h.0.whole in (
      StartsWith-append r z c h.0,
      h.1,
      subst (λ (t : List ℕ). Chain t (d ∷ list)) (sym cut)
          (Chain-append (drop (component_size c.flags) r) z (d ∷ list) h.2),
    )

-- one turn of what computes a chain
abbrev pub turn : List ℕ → Component → Option (List Component) → Option (List Component)
turn r c others =
    if nat_lt (length r) (component_size c.flags) then None
    else if has_more c.flags then option_map (λ rest. c ∷ rest) others
    else Some (c ∷ [])

turn-last : (r : List ℕ) (c : Component) (others : Option (List Component)) → component_size c.flags ≤ length r
    → has_more c.flags ≡ false → turn r c others ≡ Some (c ∷ [])
turn-last r c others whole last = let fits = le-ltb (length r) (component_size c.flags) whole in rw (fits, last) refl

turn-more : (r : List ℕ) (c : Component) (rest : List Component) → component_size c.flags ≤ length r
    → has_more c.flags ≡ true → turn r c (Some rest) ≡ Some (c ∷ rest)
turn-more r c rest whole more = let fits = le-ltb (length r) (component_size c.flags) whole in rw (fits, more) refl

chain_of-turn : (n : ℕ) (r : List ℕ) (c : Component) → StartsWith r c
    → chain_of (suc n) r ≡ turn r c (chain_of n (drop (component_size c.flags) r))
unfolding chain_of
chain_of-turn n r c h = ap (λ (d : Component). turn r d (chain_of n (drop (component_size d.flags) r)))
    (first_component-is r c h)

-- a chain is what is computed
pub chain_of-is : (n : ℕ) (r : List ℕ) (list : List Component) → Chain r list → length r ≤ n → chain_of n r ≡ Some list
chain_of-is n r [] h few = absurd h
chain_of-is zero r (c ∷ []) h few = let least = component_size-least c.flags in let whole = h.0.whole in
    absurd (omega arith)
chain_of-is zero r (c ∷ d ∷ list) h few = let least = component_size-least c.flags in let whole = h.0.whole in
    absurd (omega arith)
chain_of-is (suc n) r (c ∷ []) h few = chain_of-turn n r c h.0 ∙ turn-last r c _ h.0.whole h.1
chain_of-is (suc n) r (c ∷ d ∷ list) h few =
    let least = component_size-least c.flags in
    let whole = h.0.whole in
    let long = length-drop (component_size c.flags) r in
    let less : length (drop (component_size c.flags) r) ≤ n = omega arith in
    chain_of-turn n r c h.0 ∙ ap (turn r c) (chain_of-is n (drop (component_size c.flags) r) (d ∷ list) h.2 less)
    ∙ turn-more r c (d ∷ list) h.0.whole h.1

-- what a turn that gives a list had
turn-some : (r : List ℕ) (c : Component) (others : Option (List Component)) (list : List Component)
    → turn r c others ≡ Some list
    → (component_size c.flags ≤ length r) × (((has_more c.flags ≡ false) × (list ≡ c ∷ []))
    ⊎ ((rest : List Component) × (has_more c.flags ≡ true) × (others ≡ Some rest) × (list ≡ c ∷ rest)))
turn-some r c others list h =
    elim (cases_Bool (nat_lt (length r) (component_size c.flags))) [
      | inl short ↦ let e : None ≡ Some list = rw short at h in cc
      | inr fits ↦
          let e : (if has_more c.flags then option_map (λ rest. c ∷ rest) others else Some (c ∷ [])) ≡ Some list =
          rw fits at h in (
            ltb-false _ _ fits,
            elim (cases_Bool (has_more c.flags)) [
              | inl more ↦
                  let f : option_map (λ rest. c ∷ rest) others ≡ Some list = rw more at e in
                  inr (go others more f)
              | inr last ↦ let f : Some (c ∷ []) ≡ Some list = rw last at e in let g : c ∷ [] ≡ list = cc in
                  inl (last, sym g)
            ],
          )
    ]
  where
    go : (o : Option (List Component)) → has_more c.flags ≡ true → option_map (λ rest. c ∷ rest) o ≡ Some list
        → (rest : List Component) × (has_more c.flags ≡ true) × (o ≡ Some rest) × (list ≡ c ∷ rest)
    go None more f = cc
    go (Some rest) more f = let g : c ∷ rest ≡ list = cc in (rest, more, refl, sym g)

starts : (r : List ℕ) → component_size (first_component r).flags ≤ length r → StartsWith r (first_component r)
starts r whole = record { flags = refl; glyph = refl; whole = whole }

-- what is computed is a chain
pub chain_of-tells : (n : ℕ) (r : List ℕ) (list : List Component) → chain_of n r ≡ Some list → Chain r list
unfolding chain_of
chain_of-tells zero r list h = cc
chain_of-tells (suc n) r list h =
    let c = first_component r in
    let t = turn-some r c (chain_of n (drop (component_size c.flags) r)) list h in
    elim t.1 [
      | inl last ↦ subst (Chain r) (sym last.1) (starts r t.0, last.0)
      | inr more ↦
          let k = chain_of-tells n (drop (component_size c.flags) r) more.0 more.2 in
          subst (Chain r) (sym more.3) (longer more.0 (starts r t.0) more.1 k)
    ]
  where
    longer : (rest : List Component) → StartsWith r (first_component r) → has_more (first_component r).flags ≡ true
        → Chain (drop (component_size (first_component r).flags) r) rest → Chain r (first_component r ∷ rest)
    longer [] h more k = absurd k
    longer (d ∷ rest) h more k = (h, more, k)

-- how a chain goes on after its first component
pub Chain-first : (r : List ℕ) (c : Component) (list : List Component) → StartsWith r c → Chain r list
    → ((has_more c.flags ≡ false) × (list ≡ c ∷ [])) ⊎ ((rest : List Component) × (has_more c.flags ≡ true)
    × (list ≡ c ∷ rest) × Chain (drop (component_size c.flags) r) rest)
Chain-first r c [] h k = absurd k
Chain-first r c (d ∷ []) h k =
    let same = first_component-only r d c k.0 h in
    inl (subst (λ (x : Component). has_more x.flags ≡ false) same k.1, ap (λ (x : Component). x ∷ []) same)
Chain-first r c (d ∷ e ∷ list) h k =
    let same = first_component-only r d c k.0 h in
    inr (
      e ∷ list,
      subst (λ (x : Component). has_more x.flags ≡ true) same k.1,
      ap (λ (x : Component). x ∷ e ∷ list) same,
      subst (λ (x : Component). Chain (drop (component_size x.flags) r) (e ∷ list)) same k.2,
    )

-- a chain has a first component
pub Chain-starts : (r : List ℕ) → HasChain r → ((c : Component) → StartsWith r c → ⊥) → ⊥
Chain-starts r ([], k) none = k
Chain-starts r (c ∷ [], k) none = none c k.0
Chain-starts r (c ∷ d ∷ list, k) none = none c k.0

-- a component takes six bytes at least
pub length-chain : (r : List ℕ) (list : List Component) → Chain r list → 6 * length list ≤ length r
length-chain r [] h = absurd h
length-chain r (c ∷ []) h = let least = component_size-least c.flags in let whole = h.0.whole in omega arith
length-chain r (c ∷ d ∷ list) h =
    let least = component_size-least c.flags in
    let whole = h.0.whole in
    let cut = length-drop (component_size c.flags) r in
    let rest = length-chain (drop (component_size c.flags) r) (d ∷ list) h.2 in
    omega arith

-- the component is a glyph below a count
abbrev Low : ℕ → Component → Type 0
Low n c = c.glyph < n

-- the steps of a check that goes from component to component
pub IsChain-last : (n : ℕ) (r : List ℕ) (c : Component) → StartsWith r c → has_more c.flags ≡ false → c.glyph < n
    → IsChain n r
IsChain-last n r c h last low = (c ∷ [], (h, last), All-from_recursion (Low n) (c ∷ []) (low, tt))

pub IsChain-more : (n : ℕ) (r : List ℕ) (c : Component) → StartsWith r c → has_more c.flags ≡ true → c.glyph < n
    → IsChain n (drop (component_size c.flags) r) → IsChain n r
IsChain-more n r c h more low ([], k, a) = absurd k
IsChain-more n r c h more low (d ∷ list, k, a) = (
  c ∷ d ∷ list,
  (h, more, k),
  All-from_recursion (Low n) (c ∷ d ∷ list) (
    low,
    recursion_from_All (Low n) (d ∷ list) a,
  ),
)

pub IsChain-low : (n : ℕ) (r : List ℕ) (c : Component) → StartsWith r c → IsChain n r → c.glyph < n
IsChain-low n r c h ([], k, a) = absurd k
IsChain-low n r c h (d ∷ [], k, a) = subst (λ (x : Component). x.glyph < n) (first_component-only r d c k.0 h)
    (recursion_from_All (Low n) (d ∷ []) a).0
IsChain-low n r c h (d ∷ e ∷ list, k, a) = subst (λ (x : Component). x.glyph < n) (first_component-only r d c k.0 h)
    (recursion_from_All (Low n) (d ∷ e ∷ list) a).0

pub IsChain-rest : (n : ℕ) (r : List ℕ) (c : Component) → StartsWith r c → has_more c.flags ≡ true → IsChain n r
    → IsChain n (drop (component_size c.flags) r)
IsChain-rest n r c h more (list, k, a) =
    elim (Chain-first r c list h k) [
      | inl last ↦ let f = last.0 in cc
      | inr on ↦ (
        on.0,
        on.3,
        All-from_recursion (Low n) on.0 (recursion_from_All (Low n) (c ∷ on.0) (subst (All (Low n)) on.2 a)).1,
      )
    ]

pub IsChain-starts : (n : ℕ) (r : List ℕ) → IsChain n r → ((c : Component) → StartsWith r c → ⊥) → ⊥
IsChain-starts n r (list, k, a) none = Chain-starts r (list, k) none

-- one item of what is left of a chain
pub chain_in-step : (r s : List ℕ) (c : Component) → StartsWith r c → s ≡ drop (component_size c.flags) r → HasChain r
    → chain_in r ≡ c ∷ (if has_more c.flags then chain_in s else [])
chain_in-step r s c h cut (list, k) =
    let all : chain_in r ≡ list = ap (λ o. unwrap_or o []) (chain_of-is (length r) r list k (omega arith)) in
    all ∙ elim (Chain-first r c list h k) [
      | inl last ↦ last.1 ∙ sym (ap (λ (b : Bool). c ∷ (if b then chain_in s else [])) last.0)
      | inr on ↦
          let rest : Chain s on.0 = subst (λ (t : List ℕ). Chain t on.0) (sym cut) on.3 in
          let left : chain_in s ≡ on.0 = ap (λ o. unwrap_or o []) (chain_of-is (length s) s on.0 rest (omega arith)) in
          on.2 ∙ ap (λ (t : List Component). c ∷ t) (sym left)
          ∙ sym (ap (λ (b : Bool). c ∷ (if b then chain_in s else [])) on.1)
    ]

pub HasChain-rest : (r s : List ℕ) (c : Component) → StartsWith r c → s ≡ drop (component_size c.flags) r
    → has_more c.flags ≡ true → HasChain r → HasChain s
HasChain-rest r s c h cut more (list, k) =
    elim (Chain-first r c list h k) [
      | inl last ↦ let f = last.0 in cc
      | inr on ↦ (on.0, subst (λ (t : List ℕ). Chain t on.0) (sym cut) on.3)
    ]
