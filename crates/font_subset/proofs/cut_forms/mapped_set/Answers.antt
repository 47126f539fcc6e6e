use Rattle.std.proofs.Common.{◌≡◌, ℕ, List, Err, ◌∙◌, ap, arith, inl, inr, subst}
use Rattle.font_file.specs.Font.{map_of}
use Rattle.font_map.specs.Mapping.{mapping_of}
use Rattle.codes.specs.Runs.{IsRun, NoRun}
use Rattle.codes.specs.Wanted.{member}
use Rattle.font_subset.proofs.UnderLemmas.{mapped_end, mapped_more, mapped_start}
use Rattle.font_subset.proofs.cut_forms.mapped_set.Goals as goal

pub loop-run-init : goal.loop-run-init
loop-run-init g c = mapped_start (map_of c.args.font.now) (member c.new-codes.result) c.new-codes.ensures

pub loop-run-preserved : goal.loop-run-preserved
loop-run-preserved g c =
    let same : mapping_of c.in_ok-chart.chart.0 c.in_ok-chart.chart.1 ≡ map_of c.args.font.now =
    ap (λ (p : List ℕ × ℕ). mapping_of p.0 p.1) (c.in_ok-chart.ensures.mapping ∙ c.mapping.ensures) in
    mapped_more (map_of c.args.font.now) c.loop-run.from c.in-Some.run' (member c.loop-run.codes)
    (member c.add.new.self)
    (subst (λ (m : ℕ → ℕ). IsRun m c.loop-run.from c.in-Some.run') same c.in-Some.ensures.run) c.loop-run.invariant
    c.in-Ok.ensures.added

pub unreachable-requires : goal.unreachable-requires
unreachable-requires g c = elim (c.in-Err-BadRange.ensures.bad_range.0 (ap Err c.in-Err-BadRange.field-0-is)) [
  | inl above ↦ omega (arith, above, c.in-Some.ensures.run.piece.order)
  | inr above ↦ omega (arith, above, c.in-Some.ensures.run.piece.within)
]

pub returns-clause-codes : goal.returns-clause-codes
returns-clause-codes g c =
    let same : mapping_of c.in_ok-chart.chart.0 c.in_ok-chart.chart.1 ≡ map_of c.args.font.now =
    ap (λ (p : List ℕ × ℕ). mapping_of p.0 p.1) (c.in_ok-chart.ensures.mapping ∙ c.mapping.ensures) in
    mapped_end (map_of c.args.font.now) c.loop-run.from (member c.loop-run.codes)
    (subst (λ (m : ℕ → ℕ). NoRun m c.loop-run.from) same c.in_default.ensures.run) c.loop-run.invariant
