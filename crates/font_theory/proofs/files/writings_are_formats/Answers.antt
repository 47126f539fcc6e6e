use Rattle.font_theory.proofs.OurFormatLemmas.{IsFormat-format_with}
use Rattle.font_theory.proofs.files.writings_are_formats.Goals as goal

pub returns : goal.returns
returns c = IsFormat-format_with
