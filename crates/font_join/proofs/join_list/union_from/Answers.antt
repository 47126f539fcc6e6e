use Rattle.std.proofs.Common.{ℕ, ◌-◌, map, subst, ◌∙◌}
use Rattle.std.proofs.lemmas.List.{length-map}
use Rattle.font_theory.specs.Kinds.{format_of}
use Rattle.font_theory.proofs.KindLemmas.{kind_is}
use Rattle.font_join.specs.JoinList.{IsRefusedAt}
use Rattle.font_join.specs.Union.{content_in}
use Rattle.font_join.specs.declared.join_error.JoinError.TheVariants.{NoMemory}
use Rattle.font_join.proofs.TurnLemmas.{united_memory, united_same}
use Rattle.font_join.proofs.join_list.union_from.Goals as goal

pub returns-in-Err-clause-exact : goal.returns-in-Err-clause-exact
returns-in-Err-clause-exact g c =
    let bytes = map g.F.AsSlice.items c.args.files.now in
    subst (λ (n : ℕ). IsRefusedAt (format_of c.args.first.kind) bytes (n - 1) NoMemory)
    (length-map c.args.files.now g.F.AsSlice.items) (united_memory (kind_is c.args.first.kind) bytes
    (content_in c.in_ok-all.all) c.in_ok-all.ensures.exact.united)

pub returns-in-Ok-clause-exact : goal.returns-in-Ok-clause-exact
returns-in-Ok-clause-exact g c = record {
  kind_is = c.in-Ok.ensures.kind ∙ c.in_ok-all.ensures.exact.kind_is;
  united = united_same (kind_is c.args.first.kind) (map g.F.AsSlice.items c.args.files.now) (content_in c.in_ok-all.all)
      (content_in c.in-Ok.all) c.in-Ok.ensures.content c.in_ok-all.ensures.exact.united;
}
