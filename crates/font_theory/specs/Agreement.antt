-- Contents that agree, and their union, this project's own.
use Rattle.std.specs.Prelude.{◌≡◌, ℕ, List, if◌then◌else◌, Some, is_some}
use Rattle.codes.specs.CharacterMap.{AreCompatible, united}
use Rattle.font_glyph.specs.RecordMap.{AreEqualWhereBoth, union_of}
use Rattle.font_theory.specs.Content.{Content}

-- no table, no code that both map and no glyph that both keep tells two contents apart
pub record Agree (K L : Content) : Type 0 where
  pub copied : (slot : ℕ) → K.copied slot ≡ L.copied slot
  pub head : K.head ≡ L.head
  pub map : AreCompatible K.map L.map
  pub outline : AreEqualWhereBoth K.outline L.outline
  pub parts :
      (g : ℕ) (a b : List ℕ) → K.outline g ≡ Some a → L.outline g ≡ Some b → (slot : ℕ) →
      K.parts slot g ≡ L.parts slot g
  pub there :
      (g : ℕ) (a b : List ℕ) → K.outline g ≡ Some a → L.outline g ≡ Some b → K.there g ≡ L.there g

-- the union of two contents
abbrev pub both : Content → Content → Content
both K L = record {
  copied = K.copied;
  head = K.head;
  map = united K.map L.map;
  outline = union_of K.outline L.outline;
  parts = λ slot g. if is_some (K.outline g) then K.parts slot g else L.parts slot g;
  there = λ g. if is_some (K.outline g) then K.there g else L.there g;
}
