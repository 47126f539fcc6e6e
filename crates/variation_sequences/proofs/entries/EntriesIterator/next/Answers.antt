use Rattle.std.proofs.Common.{ℕ, List, ap, sym, arith, ◌∙◌}
use Rattle.variation_sequences.specs.Format14.{selector_count}
use Rattle.variation_sequences.specs.Sequences.{entries_of_record}
use Rattle.variation_sequences.proofs.EntryLemmas.{begins, ends}
use Rattle.variation_sequences.proofs.StrictLemmas.{strict_record, strict_selectors}
use Rattle.variation_sequences.proofs.entries.EntriesIterator.next.Goals as goal

pub count_selectors-count-requires : goal.count_selectors-count-requires
count_selectors-count-requires c = omega (arith, (strict_selectors _ c.self.invariant).room)

pub returns-then-count-self-clause-steps : goal.returns-then-count-self-clause-steps
returns-then-count-self-clause-steps c =
    let count = ap selector_count c.loop-entry.invariant.bytes in
    let nothing =
    ends _ _ _ _ _ c.loop-entry.invariant.left c.in_default.ensures.steps.0 c.in_default.ensures.steps.1
    (omega (arith, count, c.count_selectors-count.ensures.value)) in
    (sym c.self.view_is ∙ nothing.0, nothing.1)

pub of-self-inside-requires : goal.of-self-inside-requires
of-self-inside-requires c = strict_record _ _ c.self.invariant (omega (arith, c.count_selectors-count.ensures.value))

pub loop-entry-preserved : goal.loop-entry-preserved
loop-entry-preserved c =
    let bytes = c.loop-entry.invariant.bytes in
    let count = ap selector_count bytes in
    record {
      left =
          begins _ _ _ _ _ c.loop-entry.invariant.left c.in_default.ensures.steps.0
          (c.of-self-inside.ensures
          ∙ ap (λ (s : List ℕ). entries_of_record s c.loop-entry.self-inside.begun) (sym bytes))
          (omega (arith, count, c.count_selectors-count.ensures.value));
      bytes = bytes;
    }
