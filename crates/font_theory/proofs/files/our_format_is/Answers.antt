use Rattle.font_theory.proofs.FormatLemmas.{our_format-file, our_format-limit, our_format-old}
use Rattle.font_theory.proofs.OurFormatLemmas.{our_format-is}
use Rattle.font_theory.proofs.files.our_format_is.Goals as goal

pub returns : goal.returns
returns c = (our_format-is, our_format-file, our_format-old, our_format-limit)
