use Rattle.font_glyph.proofs.UnionLemmas.{holds_all, as_first, as_second}
use Rattle.font_glyph.proofs.laws.reach_of_a_union.Goals as goal

pub returns : goal.returns
returns c = λ first second holds also equal. (
  holds_all first second holds also equal,
  as_first first second holds also equal,
  as_second first second holds also equal,
)
