use Rattle.std.proofs.Common.{◌≡◌, ℕ, [], List, length, ap, Option, arith}
use Rattle.std.specs.Option.{unwrap_or}
use Rattle.font_glyph.specs.RecordMap.{record_in}
use Rattle.font_theory.specs.Bytes.{padded}
use Rattle.font_theory.proofs.PaddingLemmas.{length-padded-is}
use Rattle.font_write.proofs.made_glyf.outline_length.Goals as goal

pub returns : goal.returns
returns g c =
    let e : length (record_in (g.S.Source.content_of c.args.source.now).outline c.args.g)
    ≡ length (padded c.outline_of-length.result.now) =
    ap (λ (o : Option (List ℕ)). length (unwrap_or o [])) (c.outline_of-length.ensures.outline c.requires) in
    omega (arith, e, length-padded-is c.outline_of-length.result.now, c.padding.ensures)
