use Rattle.std.proofs.Common.{◌≤◌, ◌⊎◌, length, inl, inr, arith}
use Rattle.std.proofs.lemmas.Bool.{cases_lt}
use Rattle.divided_tables.proofs.EitherLemmas.{either_all, either_none}
use Rattle.divided_tables.proofs.all_tables.lay_over.Goals as goal

pub loop-j-init : goal.loop-j-init
loop-j-init c = either_none c.args.first.now c.args.second.now

pub returns : goal.returns
returns c =
    let past : (length c.args.first.now ≤ c.loop-j.j) ⊎ (length c.args.second.now ≤ c.loop-j.j) =
    elim (cases_lt c.loop-j.j (length c.args.first.now)) [
      | inl low ↦
          inr (omega (arith, low, c.loop-j-test.false, c.loop-j.auto.j-end, c.min-count.ensures))
      | inr high ↦
          inl high
    ] in
    either_all c.args.first.now c.args.second.now c.loop-j.first c.loop-j.j past c.loop-j.invariant
