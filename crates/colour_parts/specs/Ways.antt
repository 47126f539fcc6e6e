-- How a table is divided that says something of each glyph, this project's own: its frame is such a table that says
-- nothing of any glyph, and the part of a glyph is one that says of this glyph what it says, and nothing of others.
use Rattle.std.specs.Prelude.{◌≡◌, ℕ, ◌<◌, nat_eq, not, Bool, true, false, ◌&&◌, ◌⊎◌, List, [], if◌then◌else◌}
use Rattle.font_theory.specs.Content.{glyph_count}
use Rattle.font_theory.specs.Parting.{Parting}

-- a way to read and write tables that say something of glyphs, of which there are n
pub record Way (W X : Type 0) : Type 0 where
  pub divided : ℕ → List ℕ → Bool  -- a table is read, and divided
  pub front : List ℕ → W  -- what it has that is of no glyph
  pub no_front : W
  pub said : ℕ → List ℕ → ℕ → X  -- what it says of a glyph
  pub nothing : X
  pub is_nothing : X → Bool
  pub room : ℕ → (ℕ → X) → Bool  -- what is said of n glyphs has room in a table
  pub made : ℕ → W → (ℕ → X) → List ℕ  -- the table with a front that says this of n glyphs

-- something is said of a glyph alone
abbrev pub alone : {W X : Type 0} → Way W X → ℕ → X → ℕ → X
alone way g x h = if nat_eq h g then x else way.nothing

-- what the parts of glyphs say of them
abbrev pub said_by : {W X : Type 0} → Way W X → ℕ → (ℕ → List ℕ) → ℕ → X
said_by way n parts g = if way.divided n (parts g) then way.said n (parts g) g else way.nothing

-- how tables are divided in this way. A table that is not divided is its own frame, and no glyph has a part
unfoldable pub parting_by : {W X : Type 0} → Way W X → Parting
parting_by way = record {
  frame = λ c t.
      if way.divided (glyph_count c) t then way.made (glyph_count c) (way.front t) (λ _. way.nothing) else t;
  part = λ c t g.
      if way.divided (glyph_count c) t && not (way.is_nothing (way.said (glyph_count c) t g))
      then way.made (glyph_count c) way.no_front (alone way g (way.said (glyph_count c) t g)) else [];
  whole = λ c t parts.
      if way.divided (glyph_count c) t
      then way.made (glyph_count c) (way.front t) (said_by way (glyph_count c) parts) else t;
  fits = λ c t parts.
      if way.divided (glyph_count c) t then way.room (glyph_count c) (said_by way (glyph_count c) parts) else true;
}

-- a table has this front, and says this of n glyphs
pub record Says {W X : Type 0} (way : Way W X) (n : ℕ) (own : W) (x : ℕ → X) (t : List ℕ) : Type 0 where
  pub divided : way.divided n t ≡ true
  pub front : way.front t ≡ own
  pub said : (g : ℕ) → g < n → way.said n t g ≡ x g

-- what is asked of a way; `IsFront` and `IsSaid` are what is known of what is read
pub record IsWay {W X : Type 0} (way : Way W X) (IsFront : W → Type 0) (IsSaid : ℕ → X → Type 0) : Type 0 where
  pub nothing : (x : X) → way.is_nothing x ≡ true → x ≡ way.nothing
  pub is_nothing : way.is_nothing way.nothing ≡ true
  pub none : (n : ℕ) → way.divided n [] ≡ false
  pub room_less :
      (n : ℕ) (x y : ℕ → X) → ((g : ℕ) → g < n → (y g ≡ way.nothing) ⊎ (y g ≡ x g)) → way.room n x ≡ true
      → way.room n y ≡ true
  pub room_same : (n : ℕ) (x y : ℕ → X) → ((g : ℕ) → g < n → x g ≡ y g) → way.room n x ≡ way.room n y
  pub made_same :
      (n : ℕ) (w : W) (x y : ℕ → X) → ((g : ℕ) → g < n → x g ≡ y g) → way.made n w x ≡ way.made n w y
  pub no_front : IsFront way.no_front
  pub nothing_said : (n : ℕ) → IsSaid n way.nothing
  pub front_read : (n : ℕ) (t : List ℕ) → way.divided n t ≡ true → IsFront (way.front t)
  pub read : (n : ℕ) (t : List ℕ) → way.divided n t ≡ true → (g : ℕ) → IsSaid n (way.said n t g)
  pub has_room : (n : ℕ) (t : List ℕ) → way.divided n t ≡ true → way.room n (way.said n t) ≡ true
  pub made :
      (n : ℕ) (w : W) (x : ℕ → X) → IsFront w → ((g : ℕ) → IsSaid n (x g)) → way.room n x ≡ true
      → Says way n w x (way.made n w x)
