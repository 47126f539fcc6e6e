use Rattle.std.proofs.Common.{arith, sym, ◌∙◌}
use Rattle.std.proofs.lemmas.Bool.{lt-ltb, ne_eqb}
use Rattle.divided_tables.proofs.SequenceNextLemmas.{less_first, more_last, same_by_glyph}
use Rattle.divided_tables.proofs.sequence_union.comes_before.Goals as goal

pub returns-then-place-other_place : goal.returns-then-place-other_place
returns-then-place-other_place c =
    let less = c.if-place-other_place.true in
    lt-ltb _ _ less
    ∙ sym (less_first c.args.pair c.args.other (omega arith)
    (omega (arith, less, c.place_of-place.ensures, c.place_of-other_place.ensures)))

pub returns-then-place-other_place-2 : goal.returns-then-place-other_place-2
returns-then-place-other_place-2 c =
    same_by_glyph c.args.pair c.args.other
    (sym c.place_of-place.ensures ∙ c.if-place-other_place-2.true ∙ c.place_of-other_place.ensures)

pub returns-else-place-other_place-2 : goal.returns-else-place-other_place-2
returns-else-place-other_place-2 c =
    let other = c.if-place-other_place-2.false in
    let least = c.if-place-other_place.false in
    ne_eqb _ _ other
    ∙ sym (more_last c.args.pair c.args.other (omega arith)
    (omega (arith, other, least, c.place_of-place.ensures, c.place_of-other_place.ensures)))
