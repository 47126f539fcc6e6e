use Rattle.std.proofs.Common.{refl, arith}
use Rattle.font_join.proofs.UnionSizeLemmas.{counts_without, size_without}
use Rattle.font_join.proofs.without_codes.size_without_codes.Goals as goal

pub counted_size-requires : goal.counted_size-requires
counted_size-requires g c = counts_without (g.S.Source.content_of c.args.source.now) _ refl refl c.requires.outlines
    c.requires.small

pub returns : goal.returns
returns g c =
    let whole = size_without (g.S.Source.content_of c.args.source.now) c.recall_laws.ensures.writable in
    omega (arith, whole, c.counted_size.ensures.written)
