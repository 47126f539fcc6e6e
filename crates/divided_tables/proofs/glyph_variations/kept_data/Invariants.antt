use Rattle.std.proofs.Common.{◌-◌, map}
use Rattle.divided_tables.proofs.VariationLemmas.{AreDataTo}
use Rattle.divided_tables.proofs.glyph_variations.kept_data.Given as goal

abbrev pub invariant-loop-g : goal.invariant-loop-g
invariant-loop-g g l =
    AreDataTo (g.S.Source.content_of l.source) l.variations.0 (map (λ d. d.now) l.listed.items) l.g

abbrev pub decreases-loop-g : goal.decreases-loop-g
decreases-loop-g g l = l.count - l.g
