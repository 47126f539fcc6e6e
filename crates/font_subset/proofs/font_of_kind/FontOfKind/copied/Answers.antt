use Rattle.std.proofs.Common.{List, ℕ, ap, ◌∙◌}
use Rattle.font_theory.specs.Content.{plain_font}
use Rattle.font_theory.specs.Kinds.{tables_of}
use Rattle.divided_tables.proofs.MadeLemmas.{found_as}
use Rattle.font_subset.proofs.SourceLemmas.{copied_low}
use Rattle.font_subset.proofs.font_of_kind.FontOfKind.copied.Goals as goal

pub returns-then-slot-lt-SLOTS-clause-table : goal.returns-then-slot-lt-SLOTS-clause-table
returns-then-slot-lt-SLOTS-clause-table g c =
    found_as (λ b. b.now) c.copied.result (tables_of c.args.self.now.0 c.args.self.now.1 c.args.slot)
    (c.copied.ensures.table ∙ ap (λ (f : List ℕ). (plain_font f).copied c.args.slot) c.font.ensures.font
    ∙ copied_low c.args.self.now.0 c.args.self.now.1 c.args.slot c.if-slot-lt-SLOTS.true)
