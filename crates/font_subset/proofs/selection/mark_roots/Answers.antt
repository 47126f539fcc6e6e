use Rattle.std.proofs.Common.{◌∙◌, ℕ, List, ap, option_copied, subst, sym}
use Rattle.font_tables.specs.Fields.{glyph_count_of}
use Rattle.font_theory.specs.Kinds.{font_of}
use Rattle.font_theory.specs.declared.kinds.Kind.{Kind}
use Rattle.font_subset.specs.KeptGlyphs.{glyphs_wanted}
use Rattle.font_subset.specs.Inside.{AreNumbered, IsOpenedFor}
use Rattle.font_subset.proofs.SeedLemmas.{roots_full, roots_numbered}
use Rattle.font_subset.proofs.selection.mark_roots.Goals as goal

pub with_numbers-requires : goal.with_numbers-requires
with_numbers-requires g c =
    let same = subst (λ o. IsOpenedFor c.args.kind c.args.font.now (option_copied o)) c.in-Some.is c.requires.opened in
    c.requires.count ∙ ap (λ (v : Kind × List ℕ). glyph_count_of v.1) (sym same)

pub returns-in-Some : goal.returns-in-Some
returns-in-Some g c =
    let same = subst (λ o. IsOpenedFor c.args.kind c.args.font.now (option_copied o)) c.in-Some.is c.requires.opened in
    let numbered = subst (λ (v : Kind × List ℕ). AreNumbered (font_of v.0 v.1).there
    (glyphs_wanted (option_copied c.args.numbers)) c.args.seeds c.with_numbers.result) same c.with_numbers.ensures in
    record {
      count = numbered.count ∙ c.requires.count;
      roots = λ codes is. roots_numbered c.args.kind c.args.font.now
          (record { codes = codes; glyphs = glyphs_wanted (option_copied c.args.numbers) }) c.args.seeds
          c.with_numbers.result is numbered;
    }

pub returns-in-None : goal.returns-in-None
returns-in-None g c =
    let full = subst (λ o. IsOpenedFor c.args.kind c.args.font.now (option_copied o)) c.in-None.is c.requires.opened in
    record {
      count = c.requires.count;
      roots = λ codes is. roots_full c.args.kind c.args.font.now
          (record { codes = codes; glyphs = glyphs_wanted (option_copied c.args.numbers) }) c.args.seeds full is;
    }
