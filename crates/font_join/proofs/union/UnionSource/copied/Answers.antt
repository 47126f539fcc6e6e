use Rattle.std.proofs.Common.{◌≡◌, ap, false, true, ◌∙◌}
use Rattle.font_theory.specs.Kinds.{divides_tables, tables_of}
use Rattle.font_theory.specs.Parting.{Tables}
use Rattle.divided_tables.specs.DividedTables.{replaced}
use Rattle.divided_tables.proofs.MadeLemmas.{found_as, found_at, looked_up}
use Rattle.font_join.specs.Union.{Held}
use Rattle.font_join.proofs.MergeLemmas.{first_tables, is_divided, own_tables}
use Rattle.font_join.proofs.union.UnionSource.copied.Goals as goal

pub returns-then-divides_tables-clause-table : goal.returns-then-divides_tables-clause-table
returns-then-divides_tables-clause-table g c =
    let u : Held = c.args.self.now in
    let some : divides_tables u.kind ≡ true =
    is_divided _ u c.self.view_is c.kind.result true c.kind.ensures.kind c.if-divides_tables.ensures in
    found_as (λ b. b.now) c.or_copied.result _
    (c.or_copied.ensures.table (tables_of u.kind u.tables)
    (looked_up (λ b. b.now) c.copied-copied.result _ c.copied-copied.ensures.table
    ∙ ap (λ (v : Held). tables_of v.kind v.tables c.args.slot) c.self.view_is)
    ∙ ap (λ (v : Held). replaced (tables_of u.kind u.tables) v.own c.args.slot) c.self.view_is
    ∙ ap (λ (t : Tables). t c.args.slot) (own_tables u.kind (tables_of u.kind u.tables) u.own some))

pub returns-clause-table : goal.returns-clause-table
returns-clause-table g c =
    let u : Held = c.args.self.now in
    let none : divides_tables u.kind ≡ false =
    is_divided _ u c.self.view_is c.kind.result false c.kind.ensures.kind c.if-divides_tables.ensures in
    found_at (λ b. b.now) c.copied-copied.result _ _
    (ap (λ (v : Held). tables_of v.kind v.tables c.args.slot) c.self.view_is
    ∙ ap (λ (t : Tables). t c.args.slot) (first_tables u.kind (tables_of u.kind u.tables) u.own none))
    c.copied-copied.ensures.table
