use Rattle.std.proofs.Common.{[], cond, ap, ◌∙◌}
use Rattle.font_theory.specs.Kinds.{settings, tables_by}
use Rattle.font_theory.specs.Parting.{parts_of}
use Rattle.font_theory.proofs.KindLemmas.{divides, settings-are}
use Rattle.font_theory.proofs.KindFileLemmas.{map_of-by, metric_of-by, outline_of-by, outline_of-number, parts-by}
use Rattle.font_theory.proofs.kinds.wanted_is_in_file_of_kind.Goals as goal

pub returns : goal.returns
returns c = λ kind file other wanted accepted same. let s = settings kind in let is = settings-are kind in (
  λ x h. (map_of-by s is file accepted wanted other same x h, outline_of-by s is file accepted wanted other same x h),
  outline_of-number s is file accepted wanted other same,
  λ g kept. (
    metric_of-by s is file accepted wanted other same (divides kind).hmtx g kept,
    λ slot. parts-by s is file accepted wanted other same slot g
        ∙ ap (λ b. cond b (parts_of s.partition (tables_by s file) slot g) []) kept,
  ),
  λ g dropped slot. parts-by s is file accepted wanted other same slot g
      ∙ ap (λ b. cond b (parts_of s.partition (tables_by s file) slot g) []) dropped,
)
