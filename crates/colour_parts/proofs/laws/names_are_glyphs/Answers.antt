use Rattle.colour_parts.proofs.NameLemmas.{names_are}
use Rattle.colour_parts.proofs.laws.names_are_glyphs.Goals as goal

pub returns : goal.returns
returns c = names_are
