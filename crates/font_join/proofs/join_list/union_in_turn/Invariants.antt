use Rattle.std.proofs.Common.{ℕ, List, map}
use Rattle.font_theory.specs.Kinds.{format_of}
use Rattle.font_join.specs.JoinList.{Stands}
use Rattle.font_join.specs.KindInside.{HoldsIn}
use Rattle.font_join.proofs.join_list.union_in_turn.Given as goal

-- what stands after this number of joins has the content of the union
abbrev pub invariant-loop-step : goal.invariant-loop-step
invariant-loop-step g l = (v : List ℕ) × Stands (format_of l.fn.first.kind) (map g.F.AsSlice.items l.files) l.step v
    × HoldsIn l.fn.first.kind l.all v
