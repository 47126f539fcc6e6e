use Rattle.font_theory.specs.Kinds.{font_of}
use Rattle.font_subset.proofs.BlankRunLemmas.{none_between}
use Rattle.font_subset.proofs.presence.mark_between.Goals as goal

pub returns-then-has_none : goal.returns-then-has_none
returns-then-has_none g c = none_between (font_of c.args.presence.now.0 c.args.presence.now.1).there c.args.from
    c.args.to
    c.args.marks.now (c.has_none.ensures c.if-has_none.true)
