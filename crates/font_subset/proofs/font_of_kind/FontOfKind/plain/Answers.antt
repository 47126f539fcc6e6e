use Rattle.std.proofs.Common.{◌≡◌, None, refl, false, List, ℕ, subst, sym, true, ◌∙◌}
use Rattle.font_theory.specs.Kinds.{tables_of}
use Rattle.font_theory.specs.declared.kinds.Kind.{Kind}
use Rattle.font_theory.specs.declared.kinds.TheConstants.{SEQUENCES}
use Rattle.divided_tables.specs.DividedTables.{AreOpen, has_refused}
use Rattle.font_subset.specs.Inside.{IsOpenedForKind}
use Rattle.font_subset.proofs.FurtherTableLemmas.{plain_accepted}
use Rattle.font_subset.proofs.SourceLemmas.{no_sequences, not_refused}
use Rattle.font_subset.proofs.font_of_kind.FontOfKind.plain.Goals as goal

pub unsequenced-requires : goal.unsequenced-requires
unsequenced-requires g c κs =
    let none = subst (λ (v : Kind × List ℕ). tables_of v.0 v.1 SEQUENCES ≡ None) (sym c.unread-tables.ensures)
    (no_sequences c.args.kind c.args.font.now c.requires) in
    ((refl, tt), none)

pub invariant_of-result : goal.invariant_of-result
invariant_of-result g c =
    let same = c.unread-tables.ensures in
    subst (λ (v : Kind × List ℕ). IsOpenedForKind v.0 v.1 c.in-Some.divided) (sym same) (record {
      accepted = plain_accepted c.args.kind c.args.font.now c.requires c.recall_accepted.ensures;
      are_open = subst (λ (v : Kind × List ℕ). AreOpen (tables_of v.0 v.1) c.in-Some.divided) same c.in-Some.ensures.0;
    })

pub unreachable-requires : goal.unreachable-requires
unreachable-requires g c =
    let refused = subst (λ (v : Kind × List ℕ). has_refused (tables_of v.0 v.1) ≡ true) c.unread-tables.ensures
    c.in-None.ensures in
    let no : false ≡ true = sym (not_refused c.args.kind c.args.font.now
    (plain_accepted c.args.kind c.args.font.now c.requires c.recall_accepted.ensures)) ∙ refused in
    cc

pub returns-clause-sound : goal.returns-clause-sound
returns-clause-sound g c = plain_accepted c.args.kind c.args.font.now c.requires c.recall_accepted.ensures
