-- The union of many files in cut form, this project's own: what is held of it, and its content.
use Rattle.std.specs.Prelude.{◌≡◌, ℕ, ◌+◌, ◌<◌, ◌≤◌, Bool, false, true, List, [], ◌∷◌, get_or, length}
use Rattle.std.specs.Prelude.{if◌then◌else◌, Option}
use Rattle.std.specs.Prelude.{None, IfSome}
use Rattle.std.specs.Option.{unwrap_or}
use Rattle.sfnt_bytes.specs.declared.directory.TheConstants.{MAX_FILE}
use Rattle.font_glyph.specs.RecordMap.{Records, record_in}
use Rattle.font_theory.specs.Content.{Content, plain_font, table_in_slot}
use Rattle.font_theory.specs.Difference.{are_different}
use Rattle.font_theory.specs.Kinds.{divides_tables, settings, tables_of, there_by}
use Rattle.font_theory.specs.Parting.{may_divide}
use Rattle.font_theory.specs.declared.kinds.Kind.{Kind}
use Rattle.divided_tables.specs.DividedTables.{Made, replaced}
use Rattle.map_union.specs.RunLists.{TwoLists, map_in}

-- the outline of a glyph in a list
abbrev pub listed_outline : List (Option (List ℕ)) → ℕ → Option (List ℕ)
listed_outline outlines g = get_or outlines g None

-- what is held of a union: the kind of its cuts, the file whose tables it has, its runs and its outlines, and
-- tables of its own, where the kind divides tables
pub record Held : Type 0 where
  pub kind : Kind
  pub tables : List ℕ
  pub runs : TwoLists
  pub outlines : List (Option (List ℕ))
  pub own : Made

-- the tables of a union of a kind
abbrev pub tables_in : Kind → (ℕ → Option (List ℕ)) → Made → ℕ → Option (List ℕ)
tables_in kind copied own slot = if divides_tables kind then replaced copied own slot else copied slot

-- its content, as it is written
abbrev pub content_in : Held → Content
content_in u = record {
  copied = tables_in u.kind (tables_of u.kind u.tables) u.own;
  head = (plain_font u.tables).head;
  map = map_in u.runs;
  outline = listed_outline u.outlines;
  parts = λ _ _. [];
  there = there_by (settings u.kind) (tables_in u.kind (tables_of u.kind u.tables) u.own)
      (record_in (listed_outline u.outlines));
}

-- no table that may be divided is longer than a file
abbrev pub HasShortTables : Held → Type 0
HasShortTables u = (slot : ℕ) → may_divide slot ≡ true → length (table_in_slot (content_in u).copied slot) ≤ MAX_FILE

-- no outline is too large
abbrev pub AreSmall : List (Option (List ℕ)) → Type 0
AreSmall outlines = (g : ℕ) → IfSome (listed_outline outlines g) (λ b. length b ≤ MAX_FILE)

-- the length of all outlines together
unfoldable pub outlines_length : List (Option (List ℕ)) → ℕ
outlines_length [] = 0
outlines_length (outline ∷ outlines) = length (unwrap_or outline []) + outlines_length outlines

-- the outlines of fewer than 65,536 glyphs, none of them too large, have this number of bytes
pub record HaveLength (outlines : List (Option (List ℕ))) (bytes : ℕ) : Type 0 where
  pub few : length outlines < 65536
  pub small : AreSmall outlines
  pub counted : bytes ≡ outlines_length outlines

-- both have a record of the number, and these differ
abbrev pub is_other : Records → Records → ℕ → Bool
is_other first second g = are_different (first g) (second g) false
