use Rattle.std.proofs.Common.{◌≡◌, ◌≤◌, ◌+◌, ◌∙◌, List, ℕ, length, map, Some, sym, ap, subst, arith}
use Rattle.std.specs.List.{concat}
use Rattle.sfnt_bytes.specs.declared.directory.TheConstants.{MAX_FILE}
use Rattle.font_variations.specs.MadeGvar.{listed_data}
use Rattle.font_theory.specs.Content.{Content, glyph_count}
use Rattle.divided_tables.specs.OpenVariations.{either_data, opened_gvar}
use Rattle.divided_tables.proofs.VariationLemmas.{either_fits, either_opened, listed_count, opened_some, short_at}
use Rattle.divided_tables.proofs.VariationLemmas.{table_with}
use Rattle.divided_tables.proofs.glyph_variations.gvar_of_both.Goals as goal

pub with_data-requires-clause-short : goal.with_data-requires-clause-short
with_data-requires-clause-short g c =
    short_at (g.K.Source.content_of c.args.k.now).copied c.in-Some.variations
    (sym c.requires.first_open ∙ c.in-Some.is) c.requires.first

pub with_data-requires-clause-few : goal.with_data-requires-clause-few
with_data-requires-clause-few g c =
    let C : Content = g.K.Source.content_of c.args.k.now in
    let D : Content = g.L.Source.content_of c.args.l.now in
    let listed : map (λ d. d.now) c.in_ok-listed.listed.items ≡ listed_data (either_data C D) (glyph_count C.copied) =
    c.in_ok-listed.ensures.listed ∙ (λ i. listed_data (either_opened C D c.args.first.now
    c.args.second.now c.requires.first_open c.requires.second_open i)
    (c.glyph_count.ensures i)) in
    let count = listed_count (λ d. d.now) c.in_ok-listed.listed.items (either_data C D) (glyph_count C.copied)
    listed in
    let same = ap length c.deref.ensures.value in
    omega (arith, c.glyph_count.type_inv, c.glyph_count.ensures)

pub with_data-requires-clause-fits : goal.with_data-requires-clause-fits
with_data-requires-clause-fits g c =
    let C : Content = g.K.Source.content_of c.args.k.now in
    let D : Content = g.L.Source.content_of c.args.l.now in
    let listed : map (λ d. d.now) c.in_ok-listed.listed.items ≡ listed_data (either_data C D) (glyph_count C.copied) =
    c.in_ok-listed.ensures.listed ∙ (λ i. listed_data (either_opened C D c.args.first.now
    c.args.second.now c.requires.first_open c.requires.second_open i)
    (c.glyph_count.ensures i)) in
    let same : map (λ d. d.now) c.deref.result.now ≡ listed_data (either_data C D) (glyph_count C.copied) =
    ap (map (λ d. d.now)) c.deref.ensures.value ∙ listed in
    subst (λ (l : List (List ℕ)). length (concat l) ≤ MAX_FILE + MAX_FILE) (sym same)
    (either_fits C D c.requires.first c.requires.second c.requires.count)

pub returns-clause-table : goal.returns-clause-table
returns-clause-table g c =
    let C : Content = g.K.Source.content_of c.args.k.now in
    let D : Content = g.L.Source.content_of c.args.l.now in
    let listed : map (λ d. d.now) c.in_ok-listed.listed.items ≡ listed_data (either_data C D) (glyph_count C.copied) =
    c.in_ok-listed.ensures.listed ∙ (λ i. listed_data (either_opened C D c.args.first.now
    c.args.second.now c.requires.first_open c.requires.second_open i)
    (c.glyph_count.ensures i)) in
    let same : map (λ d. d.now) c.deref.result.now ≡ listed_data (either_data C D) (glyph_count C.copied) =
    ap (map (λ d. d.now)) c.deref.ensures.value ∙ listed in
    let opened : opened_gvar C.copied ≡ Some c.in-Some.variations =
    sym c.requires.first_open ∙ c.in-Some.is in
    table_with C.copied c.in-Some.variations opened (either_data C D) (glyph_count C.copied)
    (opened_some C.copied c.in-Some.variations opened).1 c.in_ok-gvar.gvar.items
    (c.in_ok-gvar.ensures.table (either_data C D) (glyph_count C.copied) same)
