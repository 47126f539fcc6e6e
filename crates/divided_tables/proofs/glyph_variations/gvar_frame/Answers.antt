use Rattle.std.proofs.Common.{◌≡◌, ◌∙◌, List, ℕ, [], length, map, ap, arith}
use Rattle.std.specs.List.{concat}
use Rattle.font_variations.specs.MadeGvar.{listed_data}
use Rattle.font_theory.specs.Parted.{gvar_with}
use Rattle.divided_tables.proofs.MadeLemmas.{ok_as}
use Rattle.divided_tables.proofs.VariationLemmas.{listed_count, listed_nothing, nothing_long}
use Rattle.divided_tables.proofs.glyph_variations.gvar_frame.Goals as goal

pub with_data-requires-clause-few : goal.with_data-requires-clause-few
with_data-requires-clause-few g c =
    let count = listed_count (λ d. d.now) c.in_ok-listed.listed.items (λ _. []) c.glyph_count.result
    (c.in_ok-listed.ensures.listed ∙ listed_nothing c.glyph_count.result)
    in
    let same = ap length c.deref.ensures.value in
    omega (arith, c.glyph_count.type_inv)

pub with_data-requires-clause-fits : goal.with_data-requires-clause-fits
with_data-requires-clause-fits g c =
    let same : map (λ d. d.now) c.deref.result.now ≡ listed_data (λ _. []) c.glyph_count.result =
    ap (map (λ d. d.now)) c.deref.ensures.value ∙ (c.in_ok-listed.ensures.listed
    ∙ listed_nothing c.glyph_count.result) in
    let long = ap (λ (l : List (List ℕ)). length (concat l)) same ∙ nothing_long c.glyph_count.result in
    omega arith

pub returns-clause-table : goal.returns-clause-table
returns-clause-table g c =
    let same : map (λ d. d.now) c.deref.result.now ≡ listed_data (λ _. []) c.glyph_count.result =
    ap (map (λ d. d.now)) c.deref.ensures.value ∙ (c.in_ok-listed.ensures.listed
    ∙ listed_nothing c.glyph_count.result) in
    ok_as c.with_data.result (λ gvar e. e (λ _. []) c.glyph_count.result same
    ∙ ap (λ (n : ℕ). gvar_with (λ _. []) n c.args.variations.now.0) c.glyph_count.ensures.count)
    c.with_data.ensures.table
