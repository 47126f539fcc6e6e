use Rattle.std.proofs.Common.{◌≡◌, ℕ, List, None, ap, ◌∙◌, subst, sym}
use Rattle.font_tables.specs.Fields.{glyph_count_of}
use Rattle.font_theory.specs.Kinds.{fault_of}
use Rattle.font_subset.specs.KeptGlyphs.{IsKeptSet, IsRootSet}
use Rattle.font_subset.proofs.SeedLemmas.{kept_marked}
use Rattle.font_subset.proofs.selection.mark_reached.Goals as goal

pub close-requires : goal.close-requires
close-requires g c = c.requires ∙ ap glyph_count_of (sym c.font.ensures.font)

pub returns-clause-kept : goal.returns-clause-kept
returns-clause-kept g c = λ kind wanted accepted is.
    let fine = subst (λ (file : List ℕ). fault_of kind file ≡ None) (sym c.font.ensures.font) accepted in
    let roots = subst (λ (file : List ℕ). IsRootSet kind file wanted c.args.roots.now) (sym c.font.ensures.font) is in
    subst (λ (file : List ℕ). IsKeptSet kind file wanted c.in_ok-kept.kept) c.font.ensures.font
    (kept_marked kind c.font.result.now wanted c.args.roots.now c.in_ok-kept.kept fine roots c.in_ok-kept.ensures.count
    c.in_ok-kept.ensures.reached)
