use Rattle.substitutions.proofs.ReplaceLemmas.{formed_linked, replaced_linked}
use Rattle.substitutions.proofs.laws.steps_are_links.Goals as goal

pub returns : goal.returns
returns c = λ table accepted g.
    (λ outputs r. replaced_linked table accepted r, λ others formed l. formed_linked table accepted l)
