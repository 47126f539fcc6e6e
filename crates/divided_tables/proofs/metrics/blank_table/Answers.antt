use Rattle.std.proofs.Common.{rules, ◌≡◌, ℕ, sym, ap, ◌∙◌}
use Rattle.font_theory.specs.Parted.{blank}
use Rattle.divided_tables.proofs.FilledLemmas.{blank-none}
use Rattle.divided_tables.proofs.metrics.blank_table.Goals as goal

pub returns-then-pairs-eq0-clause-table : goal.returns-then-pairs-eq0-clause-table
returns-then-pairs-eq0-clause-table g c =
    let same : c.in_ok-whole.whole.items ≡ c.args.table.now = search rules in
    same ∙ sym (blank-none c.args.count c.args.table.now) ∙ ap (λ (k : ℕ). blank k c.args.count c.args.table.now)
    (sym c.if-pairs-eq0.true)
