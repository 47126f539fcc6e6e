use Rattle.std.proofs.Common.{List, MatchResult, ℕ, option_copied, option_map, subst}
use Rattle.font_subset.specs.CutOfFont.{IsCutRefusal, IsWritten}
use Rattle.font_subset.proofs.ClosingLemmas.{opened_file}
use Rattle.font_subset.proofs.CutLemmas.{answers_cut}
use Rattle.font_subset.proofs.cut_font.cut_of_opened.Goals as goal

pub returns-clause-exact : goal.returns-clause-exact
returns-clause-exact g c =
    subst (λ (z : List ℕ). MatchResult c.file_in_memory.result (λ v. IsWritten z v.items) (IsCutRefusal z))
    (opened_file c.args.font.now c.font-opened.result.now c.in_ok-seeds.seeds c.font.result.now
    (option_copied c.args.codes) (option_copied c.args.glyphs) (option_map (λ v. v.items) c.in_ok-numbers.numbers)
    (option_copied c.numbers_of.result) c.in_ok-source.source c.font-opened.ensures.font c.in_ok-seeds.ensures.seeds
    c.numbers_of.ensures c.in_ok-source.ensures.source c.in_ok-numbers.ensures.cut)
    (answers_cut (λ v. v.items) _ c.file_in_memory.result c.file_in_memory.ensures.exact)
