use Rattle.std.proofs.Common.{arith, ◌≡◌, ℕ, List, map, refl, sym, subst, ◌∙◌, ap}
use Rattle.std.proofs.lemmas.List.{length-map}
use Rattle.font_theory.specs.Tree.{file_at}
use Rattle.font_theory.specs.Kinds.{format_of}
use Rattle.font_theory.specs.declared.kinds.Kind.{Kind}
use Rattle.font_theory.proofs.KindLemmas.{kind_is}
use Rattle.font_join.specs.JoinList.{Stands}
use Rattle.font_join.specs.KindInside.{HoldsIn}
use Rattle.font_join.specs.Union.{Held, content_in}
use Rattle.font_join.proofs.MergeLemmas.{short_held}
use Rattle.font_join.proofs.TurnLemmas.{joined_first, refused_at_first, refused_at_next, stands_first, stands_next}
use Rattle.font_join.proofs.TurnLemmas.{too_large_first, united_end}
use Rattle.font_join.proofs.JoinListLemmas.{file_at-map}
use Rattle.font_join.proofs.join_list.union_in_turn.Goals as goal

pub returns-in-Err-clause-exact : goal.returns-in-Err-clause-exact
returns-in-Err-clause-exact g c =
    let bytes = map g.F.AsSlice.items c.args.files.now in
    let k : Kind = c.args.first.kind in
    refused_at_first (format_of k) bytes (file_at bytes 0) c.in-Err.error c.requires.some refl
    (too_large_first (kind_is k) (content_in c.args.first) (file_at bytes 0) c.requires.spells c.requires.form
    c.in-Err.error c.in-Err.ensures)

pub loop-step-init : goal.loop-step-init
loop-step-init g c =
    let bytes = map g.F.AsSlice.items c.args.files.now in
    let k : Kind = c.args.first.kind in
    subst (λ (u : Held). (v : List ℕ) × Stands (format_of k) bytes 1 v × HoldsIn k u v) (sym c.in-Ok.ensures.0)
    (let s = stands_first (kind_is k) bytes (content_in c.args.first) (file_at bytes 0) refl
    (joined_first (kind_is k) (content_in c.args.first) (file_at bytes 0) c.requires.spells c.requires.form
    c.in-Ok.ensures.1) in
    (s.0, s.1, record { kind_is = refl; holds = s.2 }))

pub returns-in-Err-joined_with-clause-exact : goal.returns-in-Err-joined_with-clause-exact
returns-in-Err-joined_with-clause-exact g c =
    let bytes = map g.F.AsSlice.items c.args.files.now in
    let k = c.loop-step.step in
    let y = c.as_slice.result.now in
    let e : y ≡ file_at bytes k = c.as_slice.ensures ∙ ap g.F.AsSlice.items c.index-files-step.is
    ∙ file_at-map g.F.AsSlice.items c.args.files.now k c.index-files-step.result c.loop-step-test.true in
    let s = c.loop-step.invariant in
    refused_at_next (kind_is c.args.first.kind) bytes k y c.in-Err-joined_with.error
    (omega (arith, length-map c.args.files.now g.F.AsSlice.items, c.loop-step-test.true)) e s.0 s.1
    (c.in-Err-joined_with.ensures.exact c.args.first.kind s.0 s.2)

pub joined_with-requires : goal.joined_with-requires
joined_with-requires g c =
    let s = c.loop-step.invariant in
    short_held c.loop-step.all c.args.first.kind s.0 s.2

pub loop-step-preserved : goal.loop-step-preserved
loop-step-preserved g c =
    let bytes = map g.F.AsSlice.items c.args.files.now in
    let k = c.loop-step.step in
    let y = c.as_slice.result.now in
    let e : y ≡ file_at bytes k = c.as_slice.ensures ∙ ap g.F.AsSlice.items c.index-files-step.is
    ∙ file_at-map g.F.AsSlice.items c.args.files.now k c.index-files-step.result c.loop-step-test.true in
    let s = c.loop-step.invariant in
    let j = c.in-Ok-joined_with.ensures.exact c.args.first.kind s.0 s.2 in
    let n = stands_next (kind_is c.args.first.kind) bytes k (content_in c.in-Ok-joined_with.next) y e s.0 s.1 (
      j.0,
      j.1,
      j.2.holds,
    ) in
    (n.0, n.1, record { kind_is = j.2.kind_is; holds = n.2 })

pub returns-clause-exact : goal.returns-clause-exact
returns-clause-exact g c =
    let bytes = map g.F.AsSlice.items c.args.files.now in
    let long = length-map c.args.files.now g.F.AsSlice.items in
    let s = c.loop-step.invariant in
    record {
      kind_is = s.2.kind_is;
      united = united_end (kind_is c.args.first.kind) bytes c.loop-step.step (content_in c.loop-step.all)
          (omega (arith, long, c.loop-step-test.false, c.loop-step.auto.step-end, c.requires.some)) c.requires.some
          (s.0, s.1, s.2.holds);
    }
