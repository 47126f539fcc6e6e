use Rattle.std.proofs.Common.{arith}
use Rattle.std.proofs.lemmas.Grind.{common_steps}
use Rattle.std.proofs.lemmas.List.{take_rest}
use Rattle.font_glyph.proofs.RecordLemmas.{ComponentList-composite, length-list}
use Rattle.font_glyph.proofs.component.Components.of.Goals as goal

pub returns-clause-list : goal.returns-clause-list
returns-clause-list c =
    rw take_rest (ComponentList-composite c.args.b.now c.requires (grind (arith, common_steps)) (omega arith))

pub returns-clause-count : goal.returns-clause-count
returns-clause-count c =
    rw take_rest (length-list c.args.b.now _ (ComponentList-composite c.args.b.now c.requires
    (grind (arith, common_steps)) (omega arith)))
