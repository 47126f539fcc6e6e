use Rattle.std.proofs.Common.{rules, ◌≡◌, ◌<◌, ℕ, List, arith, map, length, ◌∙◌, ap}
use Rattle.std.proofs.lemmas.List.{length-map}
use Rattle.font_theory.specs.Tree.{file_at}
use Rattle.font_join.proofs.TurnLemmas.{refused_at_first}
use Rattle.font_join.proofs.JoinListLemmas.{file_at-map}
use Rattle.font_join.proofs.JoinLemmas.{first_refused}
use Rattle.font_join.proofs.join_list.open_first.Goals as goal

pub returns-in-Ok-clause-exact : goal.returns-in-Ok-clause-exact
returns-in-Ok-clause-exact g c =
    let bytes = map g.F.AsSlice.items c.args.files.now in
    let some : 0 < length c.args.files.now = search rules in
    let e : c.as_slice.result.now ≡ file_at bytes 0 = c.as_slice.ensures ∙ ap g.F.AsSlice.items c.index-files-0.is
    ∙ file_at-map g.F.AsSlice.items c.args.files.now 0 c.index-files-0.result some in
    record {
      some = omega (arith, length-map c.args.files.now g.F.AsSlice.items, some);
      is = c.in-Ok.ensures.0
          ∙ e;
      accepted = search rules;
    }

pub returns-in-Err-clause-exact : goal.returns-in-Err-clause-exact
returns-in-Err-clause-exact g c = λ R.
    let bytes = map g.F.AsSlice.items c.args.files.now in
    let some : 0 < length c.args.files.now = search rules in
    let x : List ℕ = c.as_slice.result.now in
    let e : x ≡ file_at bytes 0 = c.as_slice.ensures ∙ ap g.F.AsSlice.items c.index-files-0.is
    ∙ file_at-map g.F.AsSlice.items c.args.files.now 0 c.index-files-0.result some in
    refused_at_first R bytes x _ (omega (arith, length-map c.args.files.now g.F.AsSlice.items, some)) e
    (first_refused R x x c.in-Err.error c.in-Err.ensures)
