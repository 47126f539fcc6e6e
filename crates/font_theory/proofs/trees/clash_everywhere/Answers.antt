use Rattle.std.proofs.Common.{inl, inr}
use Rattle.font_theory.proofs.GrownLemmas.{Stops-grown}
use Rattle.font_theory.proofs.TreeLemmas.{Overflows-none}
use Rattle.font_theory.proofs.trees.clash_everywhere.Goals as goal

pub returns : goal.returns
returns c = λ R law files forms k low x p small apart t over few.
    let stops = Stops-grown R law files forms k low x p small apart t over few in (
      stops,
      λ all. elim stops [ inl d ↦ d | inr d ↦ absurd (Overflows-none R law all t d) ],
    )
