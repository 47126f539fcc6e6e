use Rattle.std.proofs.Common.{sym, ◌∙◌}
use Rattle.colour_readers.proofs.TableLemmas.{layers_by}
use Rattle.colour_readers.proofs.open_colours.is_same_layers.Goals as goal

pub returns-clause-same : goal.returns-clause-same
returns-clause-same c e =
    sym (layers_by _ _ _ c.base_of-base.ensures) ∙ c.is_same_of.ensures.same e ∙ layers_by _ _ _ c.base_of-other.ensures

pub returns-clause-other : goal.returns-clause-other
returns-clause-other c f e =
    c.is_same_of.ensures.other f
    (layers_by _ _ _ c.base_of-base.ensures ∙ e ∙ sym (layers_by _ _ _ c.base_of-other.ensures))
