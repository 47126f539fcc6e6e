use Rattle.std.proofs.Common.{Some, None}
use Rattle.codes.proofs.WordLemmas.{split_codes}
use Rattle.codes.proofs.word.read_codes.Goals as goal

pub returns-in_default-split_once : goal.returns-in_default-split_once
returns-in_default-split_once c =
    λ first last h. c.in_default.ensures first (split_codes _ None first last c.in_default-split_once.ensures.cases h).0

pub returns-in_default-read_code : goal.returns-in_default-read_code
returns-in_default-read_code c =
    λ first last h. c.in_default-read_code.ensures first
    (split_codes _ (Some (c.in-Some-split_once.first, c.in-Some-split_once.last)) first last
    c.in-Some-split_once.ensures.cases h).0

pub returns-in_default-read_code-2 : goal.returns-in_default-read_code-2
returns-in_default-read_code-2 c =
    λ first last h. c.in_default-read_code-2.ensures last
    (split_codes _ (Some (c.in-Some-split_once.first, c.in-Some-split_once.last)) first last
    c.in-Some-split_once.ensures.cases h).1
