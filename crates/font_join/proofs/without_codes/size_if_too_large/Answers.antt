use Rattle.font_join.proofs.UnionSizeLemmas.{outlines_counted, outlines_few}
use Rattle.font_join.proofs.without_codes.size_if_too_large.Goals as goal

pub size_without_codes-beside-requires-clause-outlines : goal.size_without_codes-beside-requires-clause-outlines
size_without_codes-beside-requires-clause-outlines g c =
    outlines_counted (g.S.Source.content_of c.args.source.now) c.args.outlines.now c.bytes.result c.requires.outlines
    c.requires.count c.bytes.ensures

pub size_without_codes-beside-requires-clause-small : goal.size_without_codes-beside-requires-clause-small
size_without_codes-beside-requires-clause-small g c =
    outlines_few (g.S.Source.content_of c.args.source.now) c.args.outlines.now c.bytes.result c.requires.outlines
    c.requires.count c.bytes.ensures
