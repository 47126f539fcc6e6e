use Rattle.std.proofs.Common.{List, ap, is_some, subst, sym, ◌∙◌}
use Rattle.std.specs.List.Sorted.{IsNonDecreasingBy}
use Rattle.variation_sequences.specs.Written.{HaveSmallNumbers}
use Rattle.variation_sequences.specs.declared.variant.Pair.{Pair}
use Rattle.font_theory.specs.Content.{Content}
use Rattle.divided_tables.specs.SequenceIndex.{AreIndexed, order_of, united_pairs}
use Rattle.divided_tables.specs.OpenSequences.{OpenSequences}
use Rattle.divided_tables.proofs.MadeSequenceLemmas.{MakesTableOf, small_of_two, united_is}
use Rattle.divided_tables.proofs.SequenceWholeLemmas.{in_order}
use Rattle.divided_tables.proofs.open_sequences.Sequences.united.Goals as goal

pub table_of_both-requires-clause-first : goal.table_of_both-requires-clause-first
table_of_both-requires-clause-first g c =
    subst (IsNonDecreasingBy order_of) (sym c.deref.ensures.value) (in_order _ _ c.self.invariant)

pub table_of_both-requires-clause-second : goal.table_of_both-requires-clause-second
table_of_both-requires-clause-second g c =
    subst (IsNonDecreasingBy order_of) (sym c.deref-in-Some.ensures.value) (in_order _ _ c.other.invariant)

pub table_of_both-requires-clause-small : goal.table_of_both-requires-clause-small
table_of_both-requires-clause-small g c =
    let C : Content = g.K.Source.content_of c.args.first.now in
    subst (λ (both : List Pair × List Pair).
    HaveSmallNumbers (united_pairs (λ h. is_some (C.outline h)) both.0 both.1))
    (λ i. (sym c.deref.ensures.value i, sym c.deref-in-Some.ensures.value i))
    (small_of_two (λ h. is_some (C.outline h)) _ _ _ _ c.self.invariant c.other.invariant)

pub returns-in-Some-clause-table : goal.returns-in-Some-clause-table
returns-in-Some-clause-table g c =
    let C : Content = g.K.Source.content_of c.args.first.now in
    let one = subst (λ (o : OpenSequences). AreIndexed o c.self.inside.keys.items) c.self.view_is c.self.invariant in
    let other =
    subst (λ (o : OpenSequences). AreIndexed o c.other.inside.keys.items) c.other.view_is c.other.invariant in
    let first = c.deref.ensures.value ∙ ap (λ (o : OpenSequences). o.pairs) c.self.view_is in
    let second = c.deref-in-Some.ensures.value ∙ ap (λ (o : OpenSequences). o.pairs) c.other.view_is in
    united_is C (g.L.Source.content_of c.args.second.now) c.args.slot c.args.self.now c.args.other.now
    c.self.inside.keys.items c.other.inside.keys.items one other c.requires.opened c.requires.other_opened
    c.in-Some.field-0.now c.in-Some.ensures.table (λ v. v.items) c.table_of_both.result
    (subst (λ (both : List Pair × List Pair).
    MakesTableOf (λ v. v.items) (united_pairs (λ h. is_some (C.outline h)) both.0 both.1) c.table_of_both.result)
    (λ i. (first i, second i)) c.table_of_both.ensures.table)
