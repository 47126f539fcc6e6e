use Rattle.std.proofs.Common.{sym, ◌∙◌}
use Rattle.colour_readers.proofs.TableLemmas.{box_by, box_read_at}
use Rattle.colour_readers.proofs.open_colours.is_same_box.Goals as goal

pub is_same_at-requires-clause-first : goal.is_same_at-requires-clause-first
is_same_at-requires-clause-first c = box_read_at _ _ _ _ c.requires.first c.box_place-at.ensures

pub is_same_at-requires-clause-second : goal.is_same_at-requires-clause-second
is_same_at-requires-clause-second c = box_read_at _ _ _ _ c.requires.second c.box_place-other.ensures

pub returns-clause-same : goal.returns-clause-same
returns-clause-same c e =
    sym (box_by _ _ _ _ c.box_place-at.ensures)
    ∙ c.is_same_at.ensures.same e
    ∙ box_by _ _ _ _ c.box_place-other.ensures

pub returns-clause-other : goal.returns-clause-other
returns-clause-other c f e =
    c.is_same_at.ensures.other f
    (box_by _ _ _ _ c.box_place-at.ensures ∙ e ∙ sym (box_by _ _ _ _ c.box_place-other.ensures))
