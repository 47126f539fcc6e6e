use Rattle.std.proofs.Common.{◌≡◌, ◌∙◌, sym, None}
use Rattle.font_glyph.specs.RecordMap.{Records}
use Rattle.font_theory.specs.Content.{content, everything}
use Rattle.font_theory.specs.Kinds.{font_of}
use Rattle.font_join.specs.Union.{listed_outline}
use Rattle.font_join.proofs.AddLemmas.{none_other}
use Rattle.font_join.proofs.OutlineListLemmas.{taken_whole, union_of_none}
use Rattle.font_subset.proofs.SourceLemmas.{count_as}
use Rattle.font_join.proofs.taken_outlines.Outlines.of_file.Goals as goal

pub returns-clause-count : goal.returns-clause-count
returns-clause-count g c =
    let L : Records = (content (font_of c.args.file.now.0 c.args.file.now.1) everything).outline in
    let none : c.take-other.result ≡ None =
    c.take-other.ensures.differs
    ∙ none_other c.in_ok-outlines.outlines L c.glyph_count-count.result c.in_ok-outlines.ensures.none in
    (c.take-other.ensures.taken none).count ∙ c.in_ok-outlines.ensures.count ∙ c.glyph_count-count.ensures
    ∙ sym (count_as c.args.file.now.0 c.args.file.now.1)

pub returns-clause-outlines : goal.returns-clause-outlines
returns-clause-outlines g c =
    let L : Records = (content (font_of c.args.file.now.0 c.args.file.now.1) everything).outline in
    let none : c.take-other.result ≡ None =
    c.take-other.ensures.differs
    ∙ none_other c.in_ok-outlines.outlines L c.glyph_count-count.result c.in_ok-outlines.ensures.none in
    λ h. taken_whole c.in_ok-outlines.outlines c.take-other.new.self c.args.file.now.0 c.args.file.now.1
    c.glyph_count-count.result c.requires c.glyph_count-count.ensures c.in_ok-outlines.ensures.count
    (c.take-other.ensures.taken none) h
    ∙ union_of_none (listed_outline c.in_ok-outlines.outlines) L h (c.in_ok-outlines.ensures.none h)
