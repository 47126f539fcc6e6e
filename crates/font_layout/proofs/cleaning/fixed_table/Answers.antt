use Rattle.std.proofs.Common.{rules, arith, ap, Some, sym, ◌∙◌}
use Rattle.font_layout.proofs.CleaningLemmas.{field_place, fixed-done, fixed-not, fixed-where}
use Rattle.font_layout.proofs.cleaning.fixed_table.Goals as goal

pub returns-then-not-has_field-clause-table : goal.returns-then-not-has_field-clause-table
returns-then-not-has_field-clause-table g c =
    ap Some (sym (fixed-not c.args.slot c.args.table.now (search (
      rules,
      c.has_field.ensures,
      c.if-not-has_field.true,
    ))))

pub be32-requires : goal.be32-requires
be32-requires g c =
    let room = field_place c.args.slot c.args.table.now (search (
      rules,
      c.has_field.ensures,
      c.if-not-has_field.false,
    )) in
    omega (arith, room, c.field_at-at.ensures.place)

pub returns-then-be32-eq0-clause-table : goal.returns-then-be32-eq0-clause-table
returns-then-be32-eq0-clause-table g c =
    ap Some (sym (fixed-done c.args.slot c.args.table.now c.field_at-at.result c.field_at-at.ensures.place
    (sym c.be32.ensures ∙ c.if-be32-eq0.true)))

pub with_zeros-requires : goal.with_zeros-requires
with_zeros-requires g c =
    let room = field_place c.args.slot c.args.table.now (search (
      rules,
      c.has_field.ensures,
      c.if-not-has_field.false,
    )) in
    omega (arith, room, c.field_at-at.ensures.place)

pub returns-clause-table : goal.returns-clause-table
returns-clause-table g c =
    ap Some (fixed-where c.args.slot c.args.table.now c.in_ok-bytes.bytes.items c.field_at-at.result
    (search (rules, c.has_field.ensures, c.if-not-has_field.false)) c.field_at-at.ensures.place
    c.in_ok-bytes.ensures.zeros)
