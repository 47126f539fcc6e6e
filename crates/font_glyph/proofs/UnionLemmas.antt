-- What unions of records reach.
use Rattle.std.proofs.Common.{◌≡◌, ℕ, Bool, List, [], ◌∙◌, Option, Some, None, refl, sym, ap, subst}
use Rattle.std.specs.Option.{IsSome, option_or, unwrap_or}
use Rattle.font_glyph.specs.Reach.{IsComponentOf, Reach}
use Rattle.font_glyph.specs.Reach.Reach.{seed, part}
use Rattle.font_glyph.specs.RecordMap.{AreAmong, AreEqualWhereBoth, HoldsComponents, Records, record_in, union_of}
use Rattle.font_glyph.proofs.ReachLemmas.{Reach-from, Reach-to}

union-holds : (first second : Records) → HoldsComponents first → HoldsComponents second
    → HoldsComponents (union_of first second)
union-holds first second holds also s g c = go (first s) refl
  where
    left : (a b : Option (List ℕ)) → IsSome a → IsSome (option_or a b)
    left None b h = cc
    left (Some x) b h = h

    right : (a b : Option (List ℕ)) → IsSome b → IsSome (option_or a b)
    right None b h = h
    right (Some x) b h = refl

    go : (o : Option (List ℕ)) → first s ≡ o → IsSome (option_or (first g) (second g))
    go None e = right (first g) (second g)
        (also s g (subst (λ (o : Option (List ℕ)). IsComponentOf (unwrap_or (option_or o (second s)) []) g) e c))
    go (Some b) e =
        let same : record_in (union_of first second) s ≡ record_in first s =
        ap (λ (o : Option (List ℕ)). unwrap_or (option_or o (second s)) []) e
        ∙ sym (ap (λ (o : Option (List ℕ)). unwrap_or o []) e) in
        left (first g) (second g) (holds s g (subst (λ (r : List ℕ). IsComponentOf r g) same c))

-- what is reached from numbers with a record has a record
pub Reach-among : (records : Records) (seeds : ℕ → Bool) → HoldsComponents records → AreAmong seeds records → (g : ℕ)
    → Reach (record_in records) seeds g → IsSome (records g)
Reach-among records seeds holds among g (seed h) = among g h
Reach-among records seeds holds among g (part {s = s} r c) = holds s g c

first-same : (first second : Records) (g : ℕ) → IsSome (first g) → record_in (union_of first second) g
    ≡ record_in first g
first-same first second g h = go (first g) h
  where
    go : (o : Option (List ℕ)) → IsSome o → unwrap_or (option_or o (second g)) [] ≡ unwrap_or o []
    go None h = cc
    go (Some b) h = refl

second-same : (first second : Records) → AreEqualWhereBoth first second → (g : ℕ) → IsSome (second g)
    → record_in (union_of first second) g ≡ record_in second g
second-same first second equal g h = go (first g) (second g) refl refl h
  where
    go : (o p : Option (List ℕ)) → first g ≡ o → second g ≡ p → IsSome p → unwrap_or (option_or o p) [] ≡ unwrap_or p []
    go o None e f h = cc
    go None (Some b) e f h = refl
    go (Some a) (Some b) e f h = equal g a b e f

module _ (first second : Records) (holds : HoldsComponents first) (also : HoldsComponents second)
    (equal : AreEqualWhereBoth first second) where
  abbrev union : ℕ → List ℕ
  union = record_in (union_of first second)

  pub holds_all : HoldsComponents (union_of first second)
  holds_all = union-holds first second holds also

  pub as_first : (seeds : ℕ → Bool) → AreAmong seeds first → (g : ℕ)
      → (Reach union seeds g → Reach (record_in first) seeds g)
      × (Reach (record_in first) seeds g → Reach union seeds g)
  as_first seeds among g =
      let same : (h : ℕ) → Reach (record_in first) seeds h → union h ≡ record_in first h =
      λ h r. first-same first second h (Reach-among first seeds holds among h r) in
      (Reach-from (record_in first) union seeds same g, Reach-to (record_in first) union seeds same g)

  pub as_second : (seeds : ℕ → Bool) → AreAmong seeds second → (g : ℕ)
      → (Reach union seeds g → Reach (record_in second) seeds g)
      × (Reach (record_in second) seeds g → Reach union seeds g)
  as_second seeds among g =
      let same : (h : ℕ) → Reach (record_in second) seeds h → union h ≡ record_in second h =
      λ h r. second-same first second equal h (Reach-among second seeds also among h r) in
      (Reach-from (record_in second) union seeds same g, Reach-to (record_in second) union seeds same g)
