use Rattle.std.proofs.Common.{◌≡◌, ◌≤◌, ◌<◌, ◌∙◌, ◌+◌, ◌-◌, ◌*◌, ℕ, List, [], ap, arith, length, refl, subst, sym}
use Rattle.std.proofs.Common.{unwrap_or}
use Rattle.std.proofs.lemmas.Bool.{eqb-true}
use Rattle.sfnt_bytes.specs.Directory.{kept_tag, table_of}
use Rattle.sfnt_bytes.specs.declared.tag.TheConstants.{LOCA}
use Rattle.font_tables.specs.Fields.{glyph_count_of, loca_form_of}
use Rattle.font_tables.specs.Outlines.{offset_at, offset_size}
use Rattle.font_tables.specs.Tables.{glyf_of, loca_of}
use Rattle.font_tables.proofs.TableLemmas.{has_outline}
use Rattle.font_theory.proofs.FontLemmas.{table_fault-accepted}
use Rattle.font_subset.proofs.BlankRunLemmas.{loca_is, no_outlines}
use Rattle.font_subset.proofs.presence.has_no_outlines.Goals as goal

pub read_offset-requires : goal.read_offset-requires
read_offset-requires c =
    let file = c.args.font.now in
    let directory : c.directory.result.now ≡ file = c.directory.ensures.directory ∙ c.tables-tables.ensures.tables in
    let loca : c.table_loca-loca.result.now ≡ loca_of file = c.table_loca-loca.ensures
    ∙ ap (λ (f : List ℕ). unwrap_or (table_of f (kept_tag LOCA)) []) directory ∙ loca_is file in
    let form : c.loca_format-form.result ≡ loca_form_of file = c.loca_format-form.ensures
    ∙ ap loca_form_of c.tables-tables.ensures.tables in
    let low : c.from.result < glyph_count_of file =
    omega (arith, c.from.ensures, c.requires.order, c.requires.within) in
    (has_outline file c.table_loca-loca.result.now (glyf_of file) c.loca_format-form.result c.from.result
    (table_fault-accepted file c.recall_accepted.ensures) loca refl form low).start

pub read_offset-requires-2 : goal.read_offset-requires-2
read_offset-requires-2 c =
    let file = c.args.font.now in
    let directory : c.directory.result.now ≡ file = c.directory.ensures.directory ∙ c.tables-tables.ensures.tables in
    let loca : c.table_loca-loca.result.now ≡ loca_of file = c.table_loca-loca.ensures
    ∙ ap (λ (f : List ℕ). unwrap_or (table_of f (kept_tag LOCA)) []) directory ∙ loca_is file in
    let form : c.loca_format-form.result ≡ loca_form_of file = c.loca_format-form.ensures
    ∙ ap loca_form_of c.tables-tables.ensures.tables in
    let low : c.from-2.result - 1 < glyph_count_of file =
    omega (arith, c.from-2.ensures, c.requires.order, c.requires.within) in
    let next : c.from-2.result - 1 + 1 + 1 ≡ c.from-2.result + 1 = omega (arith, c.from-2.ensures, c.requires.order) in
    subst (λ (n : ℕ). offset_size c.loca_format-form.result * n ≤ length c.table_loca-loca.result.now) next
    (has_outline file c.table_loca-loca.result.now (glyf_of file) c.loca_format-form.result (c.from-2.result - 1)
    (table_fault-accepted file c.recall_accepted.ensures) loca refl form low).end

pub returns : goal.returns
returns c = λ is g low high.
    let file = c.args.font.now in
    let directory : c.directory.result.now ≡ file = c.directory.ensures.directory ∙ c.tables-tables.ensures.tables in
    let loca : c.table_loca-loca.result.now ≡ loca_of file = c.table_loca-loca.ensures
    ∙ ap (λ (f : List ℕ). unwrap_or (table_of f (kept_tag LOCA)) []) directory ∙ loca_is file in
    let form : c.loca_format-form.result ≡ loca_form_of file = c.loca_format-form.ensures
    ∙ ap loca_form_of c.tables-tables.ensures.tables in
    let read : ℕ → ℕ = λ j. offset_at c.loca_format-form.result c.table_loca-loca.result.now j in
    let same : offset_at (loca_form_of file) (loca_of file) c.args.from
    ≡ offset_at (loca_form_of file) (loca_of file) c.args.to =
    sym (λ i. offset_at (form i) (loca i) c.args.from) ∙ ap read (sym c.from.ensures) ∙ sym c.read_offset.ensures
    ∙ eqb-true c.read_offset.result c.read_offset-2.result is ∙ c.read_offset-2.ensures ∙ ap read c.from-2.ensures
    ∙ (λ i. offset_at (form i) (loca i) c.args.to) in
    no_outlines file (table_fault-accepted file c.recall_accepted.ensures) c.args.from c.args.to c.requires.within same
    g low high
