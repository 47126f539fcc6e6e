use Rattle.std.proofs.Common.{◌≡◌, ◌∙◌, ℕ, List, None, ap, refl, sym, true}
use Rattle.font_file.specs.Font.{font_fault}
use Rattle.font_theory.specs.Content.{everything, of_codes}
use Rattle.font_theory.specs.Cut.{Format, cut, our_format}
use Rattle.font_theory.specs.File.{current_writing, file}
use Rattle.font_theory.specs.declared.kinds.Kind.TheVariants.{Full}
use Rattle.font_theory.proofs.ContentLemmas.{content-none}
use Rattle.font_theory.proofs.FontLemmas.{IsFont-accepted}
use Rattle.font_theory.proofs.KindLemmas.{full-is, full_fault-is, misfit-kind}
use Rattle.font_subset.specs.CutOfFont.{full_cut}
use Rattle.font_subset.specs.CutOfKind.{cut_of}
use Rattle.font_join.proofs.join_pair.join.Goals as goal

-- in full cuts numbers do not count
full_own : (x : List ℕ) → font_fault x ≡ None → cut_of Full x everything ≡ full_cut x (λ _. true)
unfolding our_format
full_own x accepted =
    ap (λ (R : Format). cut R x everything) full-is
    ∙ ap (file current_writing) (content-none _ everything (IsFont-accepted x accepted) (λ g. refl))
    ∙ sym (ap (λ (R : Format). cut R x (of_codes (λ _. true))) full-is)

pub returns-clause-cuts : goal.returns-clause-cuts
returns-clause-cuts g c =
    λ F A B accepted. c.join_of_kind.ensures.cuts F (of_codes A) (of_codes B) (full_fault-is F ∙ accepted)

pub returns-clause-fits : goal.returns-clause-fits
returns-clause-fits g c = c.join_of_kind.ensures.fits (misfit-kind Full refl)

pub returns-clause-itself : goal.returns-clause-itself
returns-clause-itself g c = λ accepted own same.
    c.join_of_kind.ensures.itself (full_fault-is c.args.x.now ∙ accepted) (full_own c.args.x.now accepted ∙ own) same
