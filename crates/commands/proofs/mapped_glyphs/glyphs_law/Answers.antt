use Rattle.commands.proofs.GlyphsLemmas.{word_law}
use Rattle.commands.proofs.mapped_glyphs.glyphs_law.Goals as goal

pub returns : goal.returns
returns c = word_law
