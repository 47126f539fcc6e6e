use Rattle.std.proofs.Common.{ℕ, ◌-◌, length, map, subst, sym}
use Rattle.std.proofs.lemmas.List.{length-map}
use Rattle.font_theory.specs.Kinds.{format_of}
use Rattle.font_theory.proofs.KindLemmas.{kind_is}
use Rattle.font_join.specs.Join.{join_error_of_cut}
use Rattle.font_join.specs.JoinList.{IsRefusedAt}
use Rattle.font_join.specs.Union.{content_in}
use Rattle.font_join.specs.declared.join_error.JoinError.{JoinError}
use Rattle.font_join.proofs.TurnLemmas.{united_file, united_refused}
use Rattle.font_join.proofs.join_list.file_of_all.Goals as goal

pub returns-in-Ok-clause-exact : goal.returns-in-Ok-clause-exact
returns-in-Ok-clause-exact g c = λ kind h. united_file (kind_is kind) (map g.F.AsSlice.items c.args.files.now)
    (content_in c.args.all.now) h.united c.in-Ok.file.items c.in-Ok.ensures.exact

pub returns-in-Err-clause-exact : goal.returns-in-Err-clause-exact
returns-in-Err-clause-exact g c = λ kind h.
    let bytes = map g.F.AsSlice.items c.args.files.now in
    subst (λ (e : JoinError). IsRefusedAt (format_of kind) bytes (length c.args.files.now - 1) e) (sym c.from.ensures)
    (subst (λ (n : ℕ). IsRefusedAt (format_of kind) bytes (n - 1) (join_error_of_cut c.in-Err.error))
    (length-map c.args.files.now g.F.AsSlice.items)
    (united_refused (kind_is kind) bytes (content_in c.args.all.now) h.united c.in-Err.error c.in-Err.ensures.exact))
