use Rattle.std.proofs.Common.{ℕ, subst, sym}
use Rattle.codes.specs.CharacterMap.{AreCompatible}
use Rattle.codes.specs.Runs.{spelled}
use Rattle.map_union.proofs.union_map.UnionMap.with.Goals as goal

pub with_first-requires-clause-agree : goal.with_first-requires-clause-agree
with_first-requires-clause-agree g c = subst (λ (m : ℕ → ℕ). AreCompatible m (spelled c.args.runs.items))
    (sym c.in_ok-settle.ensures.same) c.requires.agree
