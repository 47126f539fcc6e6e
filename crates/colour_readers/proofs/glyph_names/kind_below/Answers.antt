use Rattle.colour_readers.proofs.SubtreeLemmas.{layers_next}
use Rattle.colour_readers.proofs.glyph_names.kind_below.Goals as goal

pub returns-in-Layers : goal.returns-in-Layers
returns-in-Layers c rest h = layers_next c.args.shape rest c.args.i c.in-Layers.is h
