use Rattle.std.proofs.Common.{◌≡◌, ◌∙◌, Bool, List, ℕ, [], ap, arith, cond, is_some, length, map}
use Rattle.std.specs.List.{concat}
use Rattle.font_variations.specs.Gvar.{IsAccepted, data_of}
use Rattle.font_variations.specs.MadeGvar.{listed_data}
use Rattle.divided_tables.proofs.VariationLemmas.{kept_data_small, listed_count}
use Rattle.divided_tables.proofs.glyph_variations.kept_gvar.Goals as goal

pub with_data-requires-clause-few : goal.with_data-requires-clause-few
with_data-requires-clause-few g c =
    let count = listed_count (λ d. d.now) c.in_ok-listed.listed.items _ c.args.variations.now.1
    c.in_ok-listed.ensures.listed in
    let same = ap length c.deref.ensures.value in
    omega (arith, count, same, c.glyph_count-accepted.type_inv, c.glyph_count-accepted.ensures.count)

pub with_data-requires-clause-fits : goal.with_data-requires-clause-fits
with_data-requires-clause-fits g c =
    let keeps : ℕ → Bool = λ h. is_some ((g.S.Source.content_of c.args.source.now).outline h) in
    let same : map (λ d. d.now) c.deref.result.now
    ≡ listed_data (λ h. cond (keeps h) (data_of c.args.variations.now.0 h) []) c.args.variations.now.1 =
    ap (map (λ d. d.now)) c.deref.ensures.value ∙ c.in_ok-listed.ensures.listed in
    let accepted : IsAccepted c.args.variations.now.0 c.args.variations.now.1 = c.glyph_count-accepted.ensures.sound in
    let small = kept_data_small c.args.variations.now.0 accepted.fvar c.args.variations.now.1 keeps accepted.accepted in
    let long = ap (λ (l : List (List ℕ)). length (concat l)) same in
    omega (arith, small, long, c.requires.short)
