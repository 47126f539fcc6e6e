use Rattle.std.proofs.Common.{length, map, arith}
use Rattle.std.proofs.lemmas.List.{length-map}
use Rattle.divided_tables.proofs.VariationLemmas.{made_short, made_with, place_fits}
use Rattle.divided_tables.proofs.glyph_variations.with_data.Goals as goal

pub make_gvar-requires-clause-place : goal.make_gvar-requires-clause-place
make_gvar-requires-clause-place g c =
    let place = place_fits c.args.variations.now.0 c.shared_tuples.result.now (length c.args.listed.now)
    c.shared_tuples.ensures.tuples c.requires.short c.requires.few in
    omega arith

pub returns-clause-table : goal.returns-clause-table
returns-clause-table g c =
    made_with c.args.variations.now.0 c.front.result.now c.shared_tuples.result.now c.in_ok-gvar.gvar.items
    (map (λ d. d.now) c.args.listed.now) (length c.args.listed.now) c.front.ensures.front
    c.shared_tuples.ensures.tuples (length-map c.args.listed.now (λ d. d.now)) c.in_ok-gvar.ensures.table

pub returns-clause-small : goal.returns-clause-small
returns-clause-small g c =
    made_short c.args.variations.now.0 c.front.result.now c.shared_tuples.result.now c.in_ok-gvar.gvar.items
    (map (λ d. d.now) c.args.listed.now) (length c.args.listed.now) c.front.ensures.front
    c.shared_tuples.ensures.tuples (length-map c.args.listed.now (λ d. d.now)) c.in_ok-gvar.ensures.table
    c.requires.short
    c.requires.few c.front.ensures.size c.requires.fits
