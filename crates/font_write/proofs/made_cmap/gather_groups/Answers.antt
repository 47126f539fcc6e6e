use Rattle.std.proofs.Common.{◌≡◌, ℕ, ◌+◌, ◌*◌, List, ◌++◌, take, sym, ap, ◌∙◌, refl, arith, append_assoc}
use Rattle.codes.specs.Runs.{groups_from}
use Rattle.codes.specs.declared.runs.Run.{Run}
use Rattle.codes.proofs.RunLemmas.{groups_done}
use Rattle.font_theory.specs.Content.{Content}
use Rattle.font_theory.specs.File.{group_bytes}
use Rattle.font_write.specs.Parts.{groups_bytes}
use Rattle.font_write.proofs.GroupLemmas.{groups_bytes-next}
use Rattle.font_write.proofs.made_cmap.gather_groups.Goals as goal

pub loop-i-init : goal.loop-i-init
loop-i-init g c = record { small = omega (arith, c.requires); on = omega arith; gathered = refl }

pub loop-i-preserved : goal.loop-i-preserved
loop-i-preserved g c =
    let K : Content = g.S.Source.content_of c.args.source.now in
    let i : ℕ = c.loop-i.i in
    let run : Run = c.in-Some.run' in
    let rest : List ℕ = groups_bytes (groups_from K.map (run.last + 1)) in
    let at : 12 * (i + 1) ≡ 12 * i + 12 = omega arith in
    record {
      small = omega (arith, c.in-Some.ensures.piece.within);
      on = omega (arith, c.loop-i.invariant.on, c.in-Some.ensures.piece.from_on, c.in-Some.ensures.piece.order);
      gathered = ap (λ (k : ℕ). take k c.put_group.new.block ++ rest) at
          ∙ ap (λ (b : List ℕ). b ++ rest) c.put_group.ensures
          ∙ append_assoc (take (12 * i) c.loop-i.block) (group_bytes run) rest
          ∙ ap (λ (b : List ℕ). take (12 * i) c.loop-i.block ++ b)
          (sym (groups_bytes-next K.map c.loop-i.at run c.recall_map.ensures c.in-Some.ensures))
          ∙ c.loop-i.invariant.gathered;
    }

pub returns-in_default-clause-ended : goal.returns-in_default-clause-ended
returns-in_default-clause-ended g c =
    let K : Content = g.S.Source.content_of c.args.source.now in
    λ _. groups_done K.map c.loop-i.at c.recall_map.ensures c.in_default.ensures

pub returns-clause-gathered : goal.returns-clause-gathered
returns-clause-gathered g c =
    let K : Content = g.S.Source.content_of c.args.source.now in
    let all : 12 * 85 ≡ 12 * c.loop-i.i = omega arith in
    ap (λ (k : ℕ). take k c.loop-i.block ++ groups_bytes (groups_from K.map c.loop-i.at)) all
    ∙ c.loop-i.invariant.gathered
