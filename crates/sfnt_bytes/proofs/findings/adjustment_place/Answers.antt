use Rattle.std.proofs.Common.{arith, sym}
use Rattle.sfnt_bytes.specs.declared.tag.TheConstants.{HEAD_TAG}
use Rattle.sfnt_bytes.proofs.RefusalLemmas.{table_is_within}
use Rattle.sfnt_bytes.proofs.findings.adjustment_place.Goals as goal

pub returns-in-Some-clause-within : goal.returns-in-Some-clause-within
returns-in-Some-clause-within c =
    let inside = table_is_within c.args.file.now HEAD_TAG c.in-Some.head c.requires.head (sym c.in-Some.ensures) in
    omega arith
