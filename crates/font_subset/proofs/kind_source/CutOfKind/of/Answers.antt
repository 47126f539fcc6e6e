use Rattle.std.proofs.Common.{◌∙◌, sym}
use Rattle.font_subset.proofs.KindSourceLemmas.{made_none}
use Rattle.font_subset.proofs.kind_source.CutOfKind.of.Goals as goal

pub invariant_of-result : goal.invariant_of-result
invariant_of-result g c =
    made_none c.args.selection c.kind.ensures.sound _ c.none.ensures (sym c.kind.ensures.kind ∙ c.in-Full.is)
