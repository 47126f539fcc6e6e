use Rattle.std.proofs.Common.{rules, arith, ◌≡◌, ℕ, ◌<◌, ◌∙◌, length, not, sym, ap, subst, false, refl}
use borrow.Author.Count.{below_more}
use Rattle.std.specs.Result.{is_ok, IsOk}
use Rattle.font_glyph.specs.Record.{IsRecord}
use Rattle.table_tests.specs.Records.{bytes_of, listed_record}
use Rattle.table_tests.proofs.RecordsLemmas.{record_in-read, length-bytes_of}
use Rattle.table_tests.proofs.records.Records.new.Goals as goal

pub returns-then-is_err-clause-good : goal.returns-then-is_err-clause-good
returns-then-is_err-clause-good c = (
  λ e. cc,
  λ h.
      let l : c.loop-g.g < length c.args.records.items = search rules in
      let n : length (bytes_of c.args.records.items) ≡ c.len-count.result = length-bytes_of c.args.records.items
      ∙ search rules in
      let v : c.as_slice.result.now ≡ listed_record (bytes_of c.args.records.items) c.loop-g.g =
      c.as_slice.ensures.value
      ∙ record_in-read _ _ _ l c.index.ensures in
      let k : IsOk c.check_record.result =
      c.check_record.ensures.exact.1 (subst (IsRecord c.len-count.result) (sym v)
      (subst (λ (m : ℕ). IsRecord m (listed_record (bytes_of c.args.records.items) c.loop-g.g)) n
      (h.1 c.loop-g.g (omega (arith, n, l, length-bytes_of c.args.records.items))))) in
      let b : is_ok c.check_record.result ≡ false = c.is_err.ensures.negation ∙ ap not c.if-is_err.true in
      sym b ∙ k,
)

pub loop-g-preserved : goal.loop-g-preserved
loop-g-preserved c =
    let l : c.loop-g.g < length c.args.records.items = search rules in
    let v : c.as_slice.result.now ≡ listed_record (bytes_of c.args.records.items) c.loop-g.g = c.as_slice.ensures.value
    ∙ record_in-read _ _ _ l c.index.ensures in
    below_more _ _ c.loop-g.invariant (subst (IsRecord c.len-count.result) v
    (c.check_record.ensures.exact.0 (c.is_err.ensures.negation ∙ ap not c.if-is_err.false)))

pub invariant_of-result : goal.invariant_of-result
invariant_of-result c =
    let n : length (bytes_of c.args.records.items) ≡ c.len-count.result = length-bytes_of c.args.records.items
    ∙ search rules in (
      omega (arith, n),
      λ g l. subst (λ (m : ℕ). IsRecord m (listed_record (bytes_of c.args.records.items) g)) (sym n)
          (c.loop-g.invariant g (omega (arith, n, l))),
    )

pub returns-clause-good : goal.returns-clause-good
returns-clause-good c = (λ e. invariant_of-result c, λ h. refl)
