use Rattle.std.proofs.Common.{ℕ, [], List, length, ap, Option, arith}
use Rattle.std.specs.Option.{unwrap_or}
use Rattle.sfnt_bytes.specs.Sums.{checksum_of}
use Rattle.font_theory.proofs.PaddedLemmas.{length-padded}
use Rattle.font_theory.proofs.PaddingLemmas.{checksum_of-padded}
use Rattle.font_write.proofs.made_glyf.sum_outline.Goals as goal

pub returns-clause-four : goal.returns-clause-four
returns-clause-four g c =
    let e = ap (λ (o : Option (List ℕ)). length (unwrap_or o [])) (c.outline_of.ensures.outline c.requires) in
    omega (arith, e, length-padded c.outline_of.result.now)

pub returns-clause-summed : goal.returns-clause-summed
returns-clause-summed g c =
    let e = ap (λ (o : Option (List ℕ)). checksum_of (unwrap_or o [])) (c.outline_of.ensures.outline c.requires) in
    omega (arith, e, checksum_of-padded c.outline_of.result.now, c.word_sum.ensures)
