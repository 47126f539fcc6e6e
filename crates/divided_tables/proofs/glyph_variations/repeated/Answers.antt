use Rattle.std.proofs.Common.{◌≡◌, ◌∙◌, ap, map, replicate}
use Rattle.divided_tables.proofs.VariationLemmas.{map_repeated}
use Rattle.divided_tables.proofs.glyph_variations.repeated.Goals as goal

pub returns-clause-listed : goal.returns-clause-listed
returns-clause-listed g c =
    let is : c.in_ok-listed.listed.items ≡ replicate c.args.count c.args.slice = c.in_ok-listed.ensures.values in
    ap (map (λ d. d.now)) is ∙ map_repeated (λ d. d.now) c.args.count c.args.slice
