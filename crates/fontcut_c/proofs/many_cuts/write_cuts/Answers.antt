use Rattle.std.proofs.Common.{◌≡◌, ◌∙◌, None, ap, arith, length, map, refl, subst, sym}
use Rattle.std.proofs.lemmas.List.{length-map}
use Rattle.commands.specs.Run.{requested_fault}
use Rattle.font_subset.proofs.CutLemmas.{passed_on}
use Rattle.fontcut_c.specs.Requests.{RawRequest, asked_at, asked_by, closes_for, request_of}
use Rattle.fontcut_c.proofs.CutListLemmas.{as_many, files_of_sources, unopened_cuts, written}
use Rattle.fontcut_c.proofs.RequestLemmas.{asked_is}
use Rattle.fontcut_c.proofs.many_cuts.write_cuts.Goals as goal

pub returns-in_err-opened : goal.returns-in_err-opened
returns-in_err-opened c =
    let all = map asked_by c.args.requests.now in
    passed_on _ _ c.from_residual.result _ c.from_residual.ensures.1 (
      refl,
      refl,
      unopened_cuts c.args.kind c.args.font.now all _ (length c.args.out.now)
          (sym (asked_is c.args.requests.now 0 _ c.requires.some)) c.in_err-opened.field-0.0 c.in_err-opened.ensures,
    )

pub write_all-requires : goal.write_all-requires
write_all-requires c =
    let all = map asked_by c.args.requests.now in
    let opened : c.in_ok-opened.opened ≡ (c.args.kind, (c.args.font.now, closes_for c.args.kind (asked_at all 0))) =
    c.in_ok-opened.ensures.0
    ∙ ap (λ (a : RawRequest). (c.args.kind, (c.args.font.now, closes_for c.args.kind a)))
    (sym (asked_is c.args.requests.now 0 _ c.requires.some)) in
    let many = length-map c.args.requests.now asked_by in
    as_many c.args.kind c.args.font.now all c.in_ok-opened.opened c.font.result.now
    c.in_ok-sets.sets.items c.as_slice.result.now c.in_ok-sources.sources.items c.as_slice-2.result.now
    c.requires.alike opened c.font.ensures.font c.in_ok-sets.ensures c.as_slice.ensures.value c.in_ok-sources.ensures
    c.as_slice-2.ensures.value (length c.args.sizes.now) (omega (arith, c.requires.places, many))

pub returns : goal.returns
returns c =
    let all = map asked_by c.args.requests.now in
    let first = sym (asked_is c.args.requests.now 0 _ c.requires.some) in
    let opened : c.in_ok-opened.opened ≡ (c.args.kind, (c.args.font.now, closes_for c.args.kind (asked_at all 0))) =
    c.in_ok-opened.ensures.0
    ∙ ap (λ (a : RawRequest). (c.args.kind, (c.args.font.now, closes_for c.args.kind a))) first in
    let fine : requested_fault (request_of c.args.kind (asked_at all 0)) c.args.font.now ≡ None =
    subst (λ (a : RawRequest). requested_fault (request_of c.args.kind a) c.args.font.now ≡ None) first
    c.in_ok-opened.ensures.1 in
    let same = files_of_sources c.args.kind c.args.font.now all c.in_ok-opened.opened c.font.result.now
    c.in_ok-sets.sets.items c.as_slice.result.now c.in_ok-sources.sources.items c.as_slice-2.result.now
    c.requires.alike opened c.font.ensures.font c.in_ok-sets.ensures c.as_slice.ensures.value c.in_ok-sources.ensures
    c.as_slice-2.ensures.value in
    written c.args.kind c.args.font.now all c.requires.accepted c.requires.all fine c.args.out.now
    c.write_all.new.out c.args.sizes.now c.write_all.new.sizes _ c.write_all.result same c.write_all.ensures
