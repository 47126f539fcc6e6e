-- What an opened font keeps of its file, this project's own.
use Rattle.std.specs.Prelude.{◌≡◌, ℕ, List, None}
use Rattle.sfnt_bytes.specs.Refusals.{directory_fault}
use Rattle.font_tables.specs.Fields.{glyph_count_of, loca_form_of, metric_count_of, units_per_em_of}
use Rattle.font_tables.specs.Refusals.{table_fault}
use Rattle.font_tables.specs.Tables.{glyf_of, hmtx_of, loca_of}
use Rattle.font_tables.specs.declared.loca.LocaForm.{LocaForm}

-- the tables and fields of a file that nothing refuses
pub record IsOpened (file hmtx loca glyf : List ℕ) (glyph_count units_per_em metric_count : ℕ)
    (form : LocaForm) : Type 0 where
  pub hmtx_is : hmtx ≡ hmtx_of file
  pub loca_is : loca ≡ loca_of file
  pub glyf_is : glyf ≡ glyf_of file
  pub glyph_count_is : glyph_count ≡ glyph_count_of file
  pub units_per_em_is : units_per_em ≡ units_per_em_of file
  pub metric_count_is : metric_count ≡ metric_count_of file
  pub form_is : form ≡ loca_form_of file
  pub readable : directory_fault file ≡ None
  pub sound : table_fault file ≡ None
