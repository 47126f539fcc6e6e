use Rattle.divided_tables.proofs.VariationLemmas.{listed_more}
use Rattle.divided_tables.proofs.glyph_variations.data_of_both.Goals as goal

pub loop-g-preserved : goal.loop-g-preserved
loop-g-preserved g c =
    listed_more _ _ _ _ c.loop-g.g c.in_ok-list_more.ensures.listed c.loop-g.invariant c.either_of.ensures
