-- Words of private contracts and of proofs: no public clause names them.
use Rattle.std.specs.Prelude.{◌≡◌, ◌<◌, ◌≤◌, ℕ, ◌+◌, Bool, ◌||◌, List, length, Option}
use Rattle.font_tables.specs.declared.loca.LocaForm.{LocaForm}
use Rattle.font_variations.specs.Gvar.{from_data, from_offsets, has_other_axes, has_other_glyphs, has_other_version}
use Rattle.font_variations.specs.Gvar.{has_unknown_flags, IsAccepted, lacks_axes, lacks_header, offset_form}
use Rattle.font_variations.specs.Gvar.{shared_tuple_count, shared_tuples_length, shared_tuples_of, shared_tuples_offset}

-- the refusals of the header
unfoldable pub has_bad_header : List ℕ → Option (List ℕ) → ℕ → Bool
has_bad_header gvar fvar glyphs =
    lacks_header gvar || has_other_version gvar || lacks_axes fvar || has_other_axes gvar fvar
    || has_other_glyphs gvar glyphs || has_unknown_flags gvar

-- shared tuples, where there are some, lie within the table
abbrev pub HasSharedTuples : List ℕ → Type 0
HasSharedTuples gvar =
    0 < shared_tuple_count gvar → shared_tuples_offset gvar + shared_tuples_length gvar ≤ length gvar

-- what an opened table keeps
pub record IsOpenedGvar (gvar offsets array shared : List ℕ) (form : LocaForm) (glyphs : ℕ) : Type 0 where
  pub offsets_is : offsets ≡ from_offsets gvar
  pub array_is : array ≡ from_data gvar
  pub shared_is : shared ≡ shared_tuples_of gvar
  pub form_is : form ≡ offset_form gvar
  pub sound : IsAccepted gvar glyphs
