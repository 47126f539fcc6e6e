use Rattle.std.proofs.Common.{◌∙◌, ℕ, List, ap, arith, length, nat_lt}
use Rattle.font_theory.specs.Parted.{bare, metric_bytes}
use Rattle.divided_tables.proofs.FourLemmas.{no_pairs, zero_bearing, zero_pair}
use Rattle.divided_tables.proofs.metrics.are_zero.Goals as goal

pub returns-then-pairs-eq0 : goal.returns-then-pairs-eq0
returns-then-pairs-eq0 c = λ is g low high. ap (λ (b : List ℕ). nat_lt 0 (length b))
    (ap (λ (k : ℕ). bare (metric_bytes k c.args.bytes.now g)) c.if-pairs-eq0.true ∙ no_pairs g c.args.bytes.now)

pub returns-then-to-pairs : goal.returns-then-to-pairs
returns-then-to-pairs c = λ is g low high.
    zero_pair c.args.pairs c.args.bytes.now c.args.from c.args.to g
    (omega arith) low high c.if-to-pairs.true (c.is_zero.ensures is)

pub returns-then-pairs-from : goal.returns-then-pairs-from
returns-then-pairs-from c = λ is g low high.
    zero_bearing c.args.pairs c.args.bytes.now c.args.from c.args.to g
    (omega arith) low high c.if-pairs-from.true (c.is_zero-then-pairs-from.ensures is)
