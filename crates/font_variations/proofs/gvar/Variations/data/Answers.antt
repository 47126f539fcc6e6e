use Rattle.std.proofs.Common.{ℕ, List, ap, arith}
use Rattle.font_variations.proofs.GvarLemmas.{has_data}
use Rattle.font_variations.proofs.gvar.Variations.data.Goals as goal

pub outline_within-requires : goal.outline_within-requires
outline_within-requires c =
    let low = c.requires in
    let same = ap (λ (v : List ℕ × ℕ). v.1) c.self.view_is in
    has_data _ _ _ _ _ _ _ c.self.invariant (omega arith)
