use Rattle.std.proofs.Common.{rules, arith, ◌≡◌, []}
use Rattle.font_map.specs.Mapping.{mapping_of}
use Rattle.commands.specs.Codes.{code_ranges}
use Rattle.commands.proofs.CodesLemmas.{none_left, walk_apart, walk_end, walk_on, walk_start}
use Rattle.commands.proofs.mapped_codes.next_range.Goals as goal

pub returns-in_err-run-clause-range : goal.returns-in_err-run-clause-range
returns-in_err-run-clause-range g c =
    let chart = c.args.chart.now in
    let none : code_ranges (mapping_of chart.0 chart.1) c.args.from ≡ [] =
    none_left _ c.args.from c.in_err-run.ensures.map c.in_err-run.ensures.run in
    search (rules, none)

pub loop-next-init : goal.loop-next-init
loop-next-init g c = walk_start _ c.args.from c.in_ok-run.run' c.in_ok-run.ensures.map c.in_ok-run.ensures.run

pub loop-next-preserved : goal.loop-next-preserved
loop-next-preserved g c =
    walk_on _ c.args.from _ _ c.in-Some.next c.in-Some.ensures.map c.loop-next.invariant c.in-Some.ensures.run
    (omega arith)

pub returns-then-next-range-clause-range : goal.returns-then-next-range-clause-range
returns-then-next-range-clause-range g c =
    walk_apart _ c.args.from _ _ c.in-Some.next c.in-Some.ensures.map c.loop-next.invariant c.in-Some.ensures.run
    (λ e. absurd (omega (arith, e)))

pub returns-in_default-clause-range : goal.returns-in_default-clause-range
returns-in_default-clause-range g c = walk_end _ c.args.from _ _ c.in_default.ensures.map c.loop-next.invariant
    c.in_default.ensures.run
