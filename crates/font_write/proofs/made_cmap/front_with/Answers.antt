use Rattle.std.proofs.Common.{◌∙◌, sym, cond, ap}
use Rattle.font_theory.specs.File.{cmap_front, writing_of, sequence_front}
use Rattle.font_write.specs.Inside.{front_before}
use Rattle.font_write.proofs.made_cmap.front_with.Goals as goal

pub returns-then-is_empty : goal.returns-then-is_empty
unfolding front_before
returns-then-is_empty c = let none = sym c.is_empty.ensures ∙ c.if-is_empty.true in rw none c.front_of.ensures

pub returns : goal.returns
unfolding front_before
returns c = let some = sym c.is_empty.ensures ∙ c.if-is_empty.false in rw some c.front_of_three.ensures
