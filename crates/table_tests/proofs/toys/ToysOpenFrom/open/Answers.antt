use Rattle.std.proofs.Common.{refl, sym}
use Rattle.font_theory.specs.Parting.{Tables}
use Rattle.divided_tables.proofs.MadeLemmas.{found_as}
use Rattle.divided_tables.proofs.MetricTableLemmas.{or_empty}
use Rattle.table_tests.specs.Toys.{AreToysOf}
use Rattle.table_tests.specs.declared.toys.TheConstants.{TOYS}
use Rattle.table_tests.proofs.ToyLemmas.{toys_open}
use Rattle.table_tests.proofs.toys.ToysOpenFrom.open.Goals as goal

pub returns : goal.returns
returns g c =
    let copied : Tables = g.B.TablesBySlot.tables_in c.args.tables.now in
    let is : AreToysOf copied (record { bytes = c.unwrap_or.result.now; count = c.glyph_count.result }) = record {
      bytes_are = sym (or_empty (λ b. b.now) c.table.result _ c.unwrap_or.result (copied TOYS)
          (found_as (λ b. b.now) c.table.result (copied TOYS) c.table.ensures) c.unwrap_or.ensures refl);
      count_is = c.glyph_count.ensures;
    } in (is, toys_open copied _ is, refl)
