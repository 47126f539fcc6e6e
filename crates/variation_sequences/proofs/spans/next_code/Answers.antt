use Rattle.std.proofs.Common.{arith, ap, max, ◌∙◌}
use Rattle.variation_sequences.proofs.SpanLemmas.{next_here, next_past}
use Rattle.variation_sequences.proofs.spans.next_code.Goals as goal

pub returns-then-count-place : goal.returns-then-count-place
returns-then-count-place g c = next_past _ _ _ _ _ c.requires.order c.requires.place (omega arith)

pub returns : goal.returns
returns g c =
    next_here _ _ _ _ _ _ c.requires.order c.requires.place (omega arith)
    (c.max.ensures ∙ ap (max c.args.from) c.first_at.ensures)
