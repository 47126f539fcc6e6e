use Rattle.std.proofs.Common.{refl}
use Rattle.font_theory.proofs.ContentLemmas.{content-none}
use Rattle.font_theory.proofs.FontLemmas.{IsPlain-font_of}
use Rattle.font_theory.proofs.WantedLemmas.{is_root-codes, is_root-none}
use Rattle.font_theory.proofs.cuts.plain_has_no_numbers.Goals as goal

pub returns : goal.returns
returns c = (is_root-none, is_root-codes, content-none, IsPlain-font_of, λ file g. refl)
