use Rattle.std.proofs.Common.{◌∙◌, ◌∷◌, [], map, ap}
use Rattle.std.proofs.lemmas.List.{map-append}
use Rattle.divided_tables.proofs.glyph_variations.list_more.Goals as goal

pub returns-clause-listed : goal.returns-clause-listed
returns-clause-listed g c = ap (map (λ d. d.now)) c.in_ok-push.ensures.pushed
    ∙ map-append (λ d. d.now) c.args.listed.now.items (c.args.bytes ∷ [])
