use Rattle.std.proofs.Common.{ap, refl, sym, ◌∙◌}
use Rattle.font_theory.specs.Cut.{Format, cut, our_format}
use Rattle.font_theory.specs.File.{current_writing, file}
use Rattle.font_theory.proofs.ContentLemmas.{content-none}
use Rattle.font_theory.proofs.FontLemmas.{IsFont-accepted}
use Rattle.font_theory.proofs.KindLemmas.{full-is, full_fault-is}
use Rattle.font_theory.proofs.kinds.full_has_no_numbers.Goals as goal

pub returns : goal.returns
unfolding our_format
returns c = λ X accepted wanted.
    ap (λ (R : Format). cut R X wanted) full-is
    ∙ ap (file current_writing) (content-none _ wanted (IsFont-accepted X (sym (full_fault-is X)
    ∙ accepted)) (λ g. refl))
