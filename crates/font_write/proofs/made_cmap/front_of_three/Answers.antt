use Rattle.std.proofs.Common.{refl}
use Rattle.font_theory.specs.File.{sequence_front}
use Rattle.font_write.proofs.made_cmap.front_of_three.Goals as goal

pub returns : goal.returns
unfolding sequence_front
returns c = rw (c.word.ensures, c.word-2.ensures, c.word-3.ensures) refl
