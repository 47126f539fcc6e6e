use Rattle.std.proofs.Common.{arith}
use Rattle.font_glyph.proofs.ComponentLemmas.{component_size-least}
use Rattle.font_glyph.proofs.component.split_component.Goals as goal

pub returns-then-b-lt4-clause-none : goal.returns-then-b-lt4-clause-none
returns-then-b-lt4-clause-none c = λ component h. let least = component_size-least component.flags in let whole =
    h.whole in absurd (omega arith)
