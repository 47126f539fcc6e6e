-- What the crates below say of font files, in this project's own words and the standard's, passed on.
pub use Rattle.sfnt_bytes.specs.Directory.{dropped_of, kept_tag, table_of}
pub use Rattle.sfnt_bytes.specs.Findings.{findings_of}
pub use Rattle.sfnt_bytes.specs.Refusals.{directory_fault}
pub use Rattle.sfnt_bytes.specs.Text.{finding_text, no_memory_text, tag_text}
pub use Rattle.sfnt_bytes.specs.declared.directory.TheConstants.{MAX_FILE}
pub use Rattle.sfnt_bytes.specs.declared.findings.Finding.{Finding}
pub use Rattle.sfnt_bytes.specs.declared.numbers.TheConstants.{NO_MEMORY, READ_FAULT, TOO_LARGE, WRITE_FAULT}
pub use Rattle.sfnt_bytes.specs.declared.records.Entry.{Entry}
pub use Rattle.sfnt_bytes.specs.declared.tag.Tag.{Tag}
pub use Rattle.sfnt_bytes.specs.declared.tag.TheConstants.{SLOTS}
pub use Rattle.font_tables.specs.Fields.{glyph_count_of, loca_form_of, metric_count_of, units_per_em_of}
pub use Rattle.font_tables.specs.Metrics.{metric_of}
pub use Rattle.font_tables.specs.declared.loca.LocaForm.{LocaForm}
pub use Rattle.font_tables.specs.declared.loca.LocaForm.TheVariants.{Long, Short}
pub use Rattle.codes.specs.CharacterMap.{mapped_codes}
pub use Rattle.font_map.specs.Cmap.{chosen_of}
pub use Rattle.font_map.specs.Mapping.{mapping_of}
pub use Rattle.codes.specs.Wanted.{member}
pub use Rattle.font_file.specs.Font.{cmap_of, font_fault, map_of}
pub use Rattle.font_file.specs.Text.{font_error_number, font_error_text}
pub use Rattle.font_file.specs.declared.font_error.FontError.{FontError}
pub use Rattle.font_theory.specs.Cut.{Format, cut}
pub use Rattle.font_theory.specs.Kinds.{fault_of, format_of}
pub use Rattle.font_theory.specs.declared.kinds.Kind.{Kind}
pub use Rattle.font_theory.specs.declared.kinds.Kind.TheVariants.{Full, Layout, Lean, Variable}
pub use Rattle.font_theory.specs.Tree.{file_at, union_below}
