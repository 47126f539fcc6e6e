use Rattle.std.proofs.Common.{[], List, ap, is_some, subst, sym, ◌∙◌}
use Rattle.std.specs.List.Sorted.{IsNonDecreasingBy}
use Rattle.variation_sequences.specs.Written.{HaveSmallNumbers}
use Rattle.variation_sequences.specs.declared.variant.Pair.{Pair}
use Rattle.font_theory.specs.Content.{Content}
use Rattle.divided_tables.specs.SequenceIndex.{AreIndexed, order_of, united_pairs}
use Rattle.divided_tables.specs.OpenSequences.{OpenSequences}
use Rattle.divided_tables.proofs.MadeSequenceLemmas.{MakesTableOf, kept_is, kept_none, small_of_one}
use Rattle.divided_tables.proofs.SequenceWholeLemmas.{in_order}
use Rattle.divided_tables.proofs.open_sequences.Sequences.kept.Goals as goal

pub table_of_both-requires-clause-first : goal.table_of_both-requires-clause-first
table_of_both-requires-clause-first g c =
    subst (IsNonDecreasingBy order_of) (sym c.deref.ensures.value) (in_order _ _ c.self.invariant)

pub table_of_both-requires-clause-small : goal.table_of_both-requires-clause-small
table_of_both-requires-clause-small g c =
    let K : Content = g.S.Source.content_of c.args.source.now in
    subst (λ (ps : List Pair). HaveSmallNumbers (united_pairs (λ h. is_some (K.outline h)) ps []))
    (sym c.deref.ensures.value) (small_of_one (λ h. is_some (K.outline h)) _ _ c.self.invariant)

pub returns-in-None-clause-table : goal.returns-in-None-clause-table
returns-in-None-clause-table g c =
    kept_none (g.S.Source.content_of c.args.source.now) c.args.slot c.in-None.ensures.table

pub returns-in-Some-clause-table : goal.returns-in-Some-clause-table
returns-in-Some-clause-table g c =
    let K : Content = g.S.Source.content_of c.args.source.now in
    let is = subst (λ (o : OpenSequences). AreIndexed o c.self.inside.keys.items) c.self.view_is c.self.invariant in
    let pairs = c.deref.ensures.value ∙ ap (λ (o : OpenSequences). o.pairs) c.self.view_is in
    kept_is K c.args.slot c.args.self.now c.self.inside.keys.items is c.requires c.in-Some.field-0.now
    c.in-Some.ensures.table (λ v. v.items) c.table_of_both.result
    (subst (λ (ps : List Pair). MakesTableOf (λ v. v.items) (united_pairs (λ h. is_some (K.outline h)) ps [])
    c.table_of_both.result) pairs c.table_of_both.ensures.table)
