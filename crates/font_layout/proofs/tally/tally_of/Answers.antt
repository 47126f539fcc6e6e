use Rattle.std.proofs.Common.{arith}
use Rattle.std.proofs.lemmas.Option.{IfSome_then}
use Rattle.font_layout.specs.Inside.{after_all, start_tally}
use Rattle.font_layout.proofs.TallyLemmas.{counted_all, counted_links, counted_numbers}
use Rattle.font_layout.proofs.tally.tally_of.Goals as goal

pub returns-clause-some : goal.returns-clause-some
returns-clause-some c = rw c.count_all.ensures.value (counted_all c.args.steps start_tally)

pub returns-clause-links : goal.returns-clause-links
returns-clause-links c =
    rw c.count_all.ensures.value
    (IfSome_then (after_all start_tally c.args.steps) (counted_links c.args.steps start_tally)
    (λ t is. omega (arith, is)))

pub returns-clause-numbers : goal.returns-clause-numbers
returns-clause-numbers c =
    rw c.count_all.ensures.value
    (IfSome_then (after_all start_tally c.args.steps) (counted_numbers c.args.steps start_tally) (λ t is. is.1))
