-- Laws of a font without some of its tables, this project's own, each of them the contract of a function.
use Rattle.std.specs.Prelude.{◌≡◌, ◌≢◌, ℕ, ◌+◌, ◌*◌, ◌<◌, ◌≤◌, List, false, IfSome}
use Rattle.sfnt_bytes.specs.Directory.{HasRecords, slot_tag, table_count, table_entry}
use Rattle.sfnt_bytes.specs.declared.tag.Tag.{Tag}
use Rattle.sfnt_bytes.specs.declared.tag.TheConstants.{ALL_SLOTS, SLOTS}
use Rattle.font_file.specs.Font.{font_fault}
use Rattle.font_theory.specs.Content.{Wanted}
use Rattle.font_theory.specs.Kinds.{fault_of, settings}
use Rattle.font_theory.specs.Kinds.Reading.{absent}
use Rattle.font_theory.specs.declared.kinds.Kind.{Kind}
use Rattle.font_subset.specs.CutOfKind.{cut_of}
use Rattle.commands.specs.Drop.{is_tag_among, without_tables}

-- the table of a tag stays as it is: it does not go, and where there is one, it begins after the directory
pub record Stays (tags : List Tag) (file : List ℕ) (tag : Tag) : Type 0 where
  pub named : is_tag_among tags tag ≡ false
  pub past : IfSome (table_entry file tag) (λ entry. 12 + 16 * table_count file ≤ entry.offset)

-- so do the tables that every cut keeps
abbrev pub KeptStay : List Tag → List ℕ → Type 0
KeptStay tags file = (slot : ℕ) → slot < SLOTS → Stays tags file (slot_tag slot)

-- so do those that cuts of a kind read
abbrev pub ReadStay : Kind → List Tag → List ℕ → Type 0
ReadStay kind tags file =
    (slot : ℕ) → slot < ALL_SLOTS → (settings kind).reading slot ≢ absent → Stays tags file (slot_tag slot)

-- what goes beside the tables that every cut keeps does not matter to whether a font is accepted, and to why not
abbrev pub DroppingKeepsFault : Type 0
DroppingKeepsFault =
    (tags : List Tag) (file : List ℕ) → HasRecords file → KeptStay tags file
    → font_fault (without_tables tags file) ≡ font_fault file

-- what goes beside the tables of a kind does not matter to its cuts, and to whether a font is accepted for them
abbrev pub DroppingKeepsCut : Type 0
DroppingKeepsCut =
    (kind : Kind) (tags : List Tag) (file : List ℕ) → HasRecords file → KeptStay tags file → ReadStay kind tags file
    → (fault_of kind (without_tables tags file) ≡ fault_of kind file)
    × ((W : Wanted) → cut_of kind (without_tables tags file) W ≡ cut_of kind file W)
