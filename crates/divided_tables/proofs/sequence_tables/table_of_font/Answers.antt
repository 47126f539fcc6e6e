use Rattle.std.proofs.Common.{List, length, subst, sym, ◌≤◌, ◌∙◌}
use Rattle.variation_sequences.specs.Written.{HaveSmallNumbers}
use Rattle.variation_sequences.specs.declared.variant.Pair.{Pair}
use Rattle.font_theory.specs.SequenceTable.{MAX_PAIRS}
use Rattle.divided_tables.proofs.MadeSequenceLemmas.{font_few, font_small}
use Rattle.divided_tables.proofs.sequence_tables.table_of_font.Goals as goal

pub table_of-requires-clause-few : goal.table_of-requires-clause-few
table_of-requires-clause-few g c =
    subst (λ (ps : List Pair). length ps ≤ MAX_PAIRS) (sym (c.deref.ensures.value ∙ c.in_ok-pairs.ensures.pairs))
    (font_few c.args.cmap.now (g.M.CodeMap.glyph_of c.args.map.now) c.args.count c.requires)

pub table_of-requires-clause-small : goal.table_of-requires-clause-small
table_of-requires-clause-small g c =
    subst HaveSmallNumbers (sym (c.deref.ensures.value ∙ c.in_ok-pairs.ensures.pairs))
    (font_small c.args.cmap.now (g.M.CodeMap.glyph_of c.args.map.now) c.args.count c.requires)
