use Rattle.std.proofs.Common.{List, length, nat_lt, sym, ap, ℕ, ◌∙◌}
use Rattle.std.specs.Option.{option_map}
use Rattle.divided_tables.specs.HeldSequences.{OpenTable}
use Rattle.divided_tables.proofs.HeldSequenceLemmas.{no_part}
use Rattle.divided_tables.proofs.held_sequences.HeldSequencesPartedTable.has_none.Goals as goal

pub returns-in-None : goal.returns-in-None
returns-in-None g c =
    let none = sym (ap (λ (o : OpenTable). o.held) c.self.view_is) ∙ ap (option_map _) c.in-None.is in
    λ yes h low high. ap (λ (b : List ℕ). nat_lt 0 (length b)) (no_part c.args.self.now.held h none)
