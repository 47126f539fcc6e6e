use Rattle.std.proofs.Common.{◌≡◌, List, false, subst, sym, true, ℕ}
use Rattle.std.proofs.lemmas.Option.{MatchOption-at_none, MatchOption-at_some}
use Rattle.font_theory.specs.Kinds.{tables_of}
use Rattle.font_theory.specs.declared.kinds.Kind.{Kind}
use Rattle.divided_tables.specs.DividedTables.{AreOpen, has_refused}
use Rattle.font_subset.specs.Inside.{IsOpenedForKind}
use Rattle.font_subset.proofs.FurtherTableLemmas.{tables_fault}
use Rattle.font_subset.proofs.font_of_kind.FontOfKind.open_further.Goals as goal

pub invariant_of-result : goal.invariant_of-result
invariant_of-result g c =
    let same = c.in_ok-tables.ensures.exact in
    subst (λ (v : Kind × List ℕ). IsOpenedForKind v.0 v.1 c.in-Some.divided) (sym same) (record {
      accepted = tables_fault c.args.kind c.args.font.now c.recall_accepted.ensures c.in_ok-tables.ensures.inside false
          (subst (λ (v : Kind × List ℕ). has_refused (tables_of v.0 v.1) ≡ false) same
          (MatchOption-at_some _ _ _ c.in-Some.is c.in_ok-divided.ensures.opened).1);
      are_open = subst (λ (v : Kind × List ℕ). AreOpen (tables_of v.0 v.1) c.in-Some.divided) same
          (MatchOption-at_some _ _ _ c.in-Some.is c.in_ok-divided.ensures.opened).0;
    })

pub returns-in-Some-clause-sound : goal.returns-in-Some-clause-sound
returns-in-Some-clause-sound g c =
    tables_fault c.args.kind c.args.font.now c.recall_accepted.ensures c.in_ok-tables.ensures.inside false
    (subst (λ (v : Kind × List ℕ). has_refused (tables_of v.0 v.1) ≡ false) c.in_ok-tables.ensures.exact
    (MatchOption-at_some _ _ _ c.in-Some.is c.in_ok-divided.ensures.opened).1)

pub returns-clause-exact : goal.returns-clause-exact
returns-clause-exact g c =
    tables_fault c.args.kind c.args.font.now c.recall_accepted.ensures c.in_ok-tables.ensures.inside true
    (subst (λ (v : Kind × List ℕ). has_refused (tables_of v.0 v.1) ≡ true) c.in_ok-tables.ensures.exact
    (MatchOption-at_none _ _ c.in-None.is c.in_ok-divided.ensures.opened))
