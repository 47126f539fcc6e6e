use Rattle.std.specs.Option.{option_map}
use Rattle.divided_tables.proofs.MadeLemmas.{ok_as}
use Rattle.divided_tables.proofs.VariationLemmas.{gvar_united}
use Rattle.divided_tables.proofs.glyph_variations.GlyphVariationsPartedTable.united.Goals as goal

pub returns-clause-table : goal.returns-clause-table
returns-clause-table g c =
    ok_as c.gvar_of_both.result (λ o e. gvar_united (g.K.Source.content_of c.args.first.now)
    (g.L.Source.content_of c.args.second.now) (option_map (λ v. v.items) o) e) c.gvar_of_both.ensures.table
