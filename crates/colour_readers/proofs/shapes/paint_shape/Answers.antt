use Rattle.std.proofs.Common.{◌-◌, arith, inl, inr}
use Rattle.colour_readers.proofs.ShapeLemmas.{paint_none, paint_size, paint_value}
use Rattle.colour_readers.proofs.shapes.paint_shape.Goals as goal
use Rattle.colour_readers.proofs.shapes.paint_shape.Goals.{then-format-eq0-via-then-format-eq0}
use Rattle.colour_readers.proofs.shapes.paint_shape.Goals.{then-format-eq0-via-else-format-eq0+then-from-gt32}

pub returns-then-format-eq0-clause-value : goal.returns-then-format-eq0-clause-value
returns-then-format-eq0-clause-value c = elim c.then-format-eq0.branch [
  | then-format-eq0-via-then-format-eq0 w ↦ paint_none c.args.format (inl (omega arith))
  | then-format-eq0-via-else-format-eq0+then-from-gt32 w ↦ paint_none c.args.format (inr (omega arith))
]

pub returns-clause-value : goal.returns-clause-value
returns-clause-value c =
    paint_value c.args.format (c.from-2.result - 1) _ (omega arith) (omega arith) (omega (arith, c.from-2.ensures))

pub returns-clause-small : goal.returns-clause-small
returns-clause-small c = paint_size (c.from-2.result - 1) _ (omega arith)
