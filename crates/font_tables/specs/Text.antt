-- The texts and numbers of refusals, this project's own.
use Rattle.std.specs.Prelude.{ℕ, List, ◌++◌, codes, decimal}
use Rattle.sfnt_bytes.specs.Text.{tag_text}
use Rattle.font_tables.specs.declared.tables.TableError.{TableError}
use Rattle.font_tables.specs.declared.tables.TableError.TheVariants.{MissingTable, BadHead, BadMaxp, BadHhea, BadHmtx}
use Rattle.font_tables.specs.declared.tables.TableError.TheVariants.{BadLoca}

-- the text of a refusal of tables
abbrev pub table_error_text : TableError → List ℕ
table_error_text (MissingTable tag) = codes "missing table " ++ tag_text tag
table_error_text BadHead = codes "bad head"
table_error_text BadMaxp = codes "bad maxp"
table_error_text BadHhea = codes "bad hhea"
table_error_text BadHmtx = codes "bad hmtx"
table_error_text (BadLoca j) = codes "bad loca at " ++ decimal j

-- its number
abbrev pub table_error_number : TableError → ℕ
table_error_number (MissingTable tag) = 7
table_error_number BadHead = 8
table_error_number BadMaxp = 9
table_error_number BadHhea = 10
table_error_number BadHmtx = 11
table_error_number (BadLoca j) = 12
