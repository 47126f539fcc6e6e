use Rattle.std.proofs.Common.{arith, sym}
use Rattle.variation_sequences.proofs.SpanLemmas.{member_at, no_member}
use Rattle.variation_sequences.proofs.spans.member_at.Goals as goal

pub returns-then-count-place-clause-value : goal.returns-then-count-place-clause-value
returns-then-count-place-clause-value g c =
    sym (no_member _ _ _ _ _ c.requires.order c.requires.place (λ h. absurd (omega (arith, h))))

pub returns-then-code-first_at-clause-value : goal.returns-then-code-first_at-clause-value
returns-then-code-first_at-clause-value g c =
    sym (no_member _ _ _ _ _ c.requires.order c.requires.place (λ h. omega (arith, h)))

pub returns-clause-value : goal.returns-clause-value
returns-clause-value g c = sym (member_at _ _ _ _ _ c.requires.place (omega arith) (omega arith))
