use Rattle.std.proofs.Common.{refl}
use Rattle.divided_tables.proofs.NameLemmas.{names_parts_are}
use Rattle.divided_tables.proofs.names.NamesOpenFrom.open.Goals as goal

pub returns : goal.returns
returns g c = (
  c.glyph_count.ensures,
  names_parts_are (g.B.TablesBySlot.tables_in c.args.tables.now) c.glyph_count.result c.glyph_count.ensures,
  refl,
)
