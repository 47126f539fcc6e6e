use Rattle.font_theory.proofs.CmapLemmas.{IsWriting-writing_of}
use Rattle.font_theory.proofs.files.profiles_are_writings.Goals as goal

pub returns : goal.returns
returns c = IsWriting-writing_of
