use Rattle.std.proofs.Common.{arith, ◌≡◌, ℕ, ◌<◌, ◌∙◌, List, length, sym, ap, subst}
use Rattle.font_glyph.specs.Record.{IsRecord}
use Rattle.table_tests.specs.Records.{AreRecords, listed_record}
use Rattle.table_tests.proofs.RecordsLemmas.{record_in-read, length-bytes_of}
use Rattle.table_tests.proofs.records.RecordsOutlines.record_of.Goals as goal

pub returns-clause-law : goal.returns-clause-law
returns-clause-law c =
    let k : AreRecords c.args.self.now = subst AreRecords c.self.view_is c.self.invariant in
    let l : c.args.g < length c.self.inside.records.items =
    omega (arith, ap length c.self.view_is, length-bytes_of c.self.inside.records.items) in
    let v : c.as_slice.result.now ≡ listed_record c.args.self.now c.args.g =
    c.as_slice.ensures.value ∙ record_in-read _ _ _ l c.index.ensures
    ∙ ap (λ (rs : List (List ℕ)). listed_record rs c.args.g) c.self.view_is in
    subst (IsRecord (length c.args.self.now)) (sym v) (k.1 c.args.g c.requires)
