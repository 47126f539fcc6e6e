use Rattle.std.proofs.Common.{rules, ◌≡◌, ◌+◌, drop, ap, sym, ◌∙◌, slice_index_or}
use Rattle.std.proofs.lemmas.List.{at_drop_more}
use Rattle.codes.specs.Wanted.{codes_between, either, member}
use Rattle.fontcut_c.specs.Requests.{with_ranges}
use Rattle.fontcut_c.proofs.wanted_ranges.added.Goals as goal

pub loop-range-init : goal.loop-range-init
loop-range-init c = ap (λ w. with_ranges w c.args.ranges.now) c.new-wanted.ensures

pub loop-range-preserved : goal.loop-range-preserved
loop-range-preserved c =
    let i = c.loop-range.range-index in
    let all = c.args.ranges.now in
    let range = slice_index_or all i (record { first = 0; last = 0 }) in
    let added : member c.add.new.self ≡ either (codes_between range.first range.last) (member c.loop-range.wanted) =
    search rules in
    let step = at_drop_more (with_ranges (member c.loop-range.wanted)) all i (record { first = 0; last = 0 })
    c.loop-range-test.true in
    ap (λ w. with_ranges w (drop (i + 1) all)) added ∙ (sym step ∙ c.loop-range.invariant)
