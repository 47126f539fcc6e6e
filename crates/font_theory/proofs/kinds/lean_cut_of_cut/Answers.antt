use Rattle.std.proofs.Common.{inl, inr}
use Rattle.font_theory.specs.Kinds.{settings}
use Rattle.font_theory.proofs.KindLemmas.{divides, numbered, settings-are}
use Rattle.font_theory.proofs.KindLeanLemmas.{cut-lean, cut-lean_all}
use Rattle.font_theory.proofs.kinds.lean_cut_of_cut.Goals as goal

pub returns : goal.returns
returns c = λ kind file accepted A X w small. (
  (λ B how. cut-lean (settings kind) (settings-are kind) (divides kind) file accepted A X w small B
      (elim how [ inl h ↦ inl (numbered kind h) | inr h ↦ inr h ])),
  (λ by. cut-lean_all (settings kind) (settings-are kind) (divides kind) (numbered kind by) by file accepted A X w
      small),
)
