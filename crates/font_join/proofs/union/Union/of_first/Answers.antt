use Rattle.std.proofs.Common.{◌≡◌, ℕ, List, ap, sym, subst, ◌∙◌}
use Rattle.font_theory.specs.Content.{content, everything}
use Rattle.font_theory.specs.Cut.{IsCut, content_of_all}
use Rattle.font_theory.specs.Kinds.{font_of, format_of, tables_of}
use Rattle.font_theory.specs.declared.kinds.Kind.{Kind}
use Rattle.divided_tables.specs.DividedTables.{AreFine}
use Rattle.font_join.specs.Inside.{IsFormRefusal}
use Rattle.font_join.specs.KindInside.{HasFrames, IsOwn, IsUnion, SpellsIn}
use Rattle.font_join.specs.Union.{Held, content_in}
use Rattle.font_join.specs.declared.join_error.JoinError.TheVariants.{NoMemory}
use Rattle.font_join.specs.declared.join_error.Which.TheVariants.{First}
use Rattle.font_join.proofs.MergeLemmas.{fine_file, spells_first, union_first}
use Rattle.font_subset.proofs.CutLemmas.{passed_on}
use Rattle.font_join.proofs.union.Union.of_first.Goals as goal

pub returns-in_err-file-clause-exact : goal.returns-in_err-file-clause-exact
returns-in_err-file-clause-exact g c =
    passed_on _ _ c.from_residual-in_err-file.result _ c.from_residual-in_err-file.ensures.1
    (subst (λ (v : Kind × List ℕ). IsFormRefusal (format_of v.0) First v.1 c.in_err-file.field-0.0)
    c.in_ok-opened.ensures.exact c.in_err-file.ensures.exact)

pub frames_for_kind-requires : goal.frames_for_kind-requires
frames_for_kind-requires g c =
    subst (λ (v : Kind × List ℕ). AreFine (content (font_of v.0 v.1) everything).copied)
    (sym c.in_ok-file.ensures.exact.0)
    (fine_file c.in_ok-opened.opened.0 c.in_ok-opened.opened.1 c.in_ok-file.ensures.exact.1)

pub of_file-requires : goal.of_file-requires
of_file-requires g c =
    subst (λ (v : Kind × List ℕ). IsCut (format_of v.0) v.1) (sym c.in_ok-file.ensures.exact.0)
    c.in_ok-file.ensures.exact.1

pub invariant_of-result : goal.invariant_of-result
invariant_of-result g c =
    let file : Kind × List ℕ = c.in_ok-file.file in
    let form : IsCut (format_of file.0) file.1 =
    subst (λ (v : Kind × List ℕ). IsCut (format_of v.0) v.1) (sym c.in_ok-file.ensures.exact.0)
    c.in_ok-file.ensures.exact.1 in
    let kind : (c.args.kind, c.args.font.now) ≡ file = sym
    (c.in_ok-file.ensures.exact.0 ∙ c.in_ok-opened.ensures.exact) in
    let copies : IsOwn file.0 (tables_of file.0 file.1) c.in_ok-own.own =
    subst (λ (v : Kind × List ℕ). IsOwn v.0 (tables_of file.0 file.1) c.in_ok-own.own) kind
    c.in_ok-own.ensures.tables in
    subst (λ (v : Kind × List ℕ). IsUnion (record {
      kind = v.0;
      tables = v.1;
      runs = c.of_runs.result;
      outlines = c.in_ok-outlines.outlines;
      own = c.in_ok-own.own;
    }) c.in_ok-framed.framed) c.in_ok-file.ensures.exact.0
    (union_first file.0 file.1 form c.of_runs.result c.in_ok-outlines.outlines c.in_ok-own.own
    (c.of_runs.ensures ∙ c.in_ok-runs.ensures.runs.spelled_map) c.in_ok-outlines.ensures.outlines copies
    c.in_ok-framed.framed
    (subst (λ (v : Kind × List ℕ).
    HasFrames v.0 (content (font_of file.0 file.1) everything).copied c.in_ok-framed.framed) kind
    c.in_ok-framed.ensures.tables) c.in_ok-outlines.ensures.count)

pub returns-clause-exact : goal.returns-clause-exact
returns-clause-exact g c =
    let file : Kind × List ℕ = c.in_ok-file.file in
    let form : IsCut (format_of file.0) file.1 =
    subst (λ (v : Kind × List ℕ). IsCut (format_of v.0) v.1) (sym c.in_ok-file.ensures.exact.0)
    c.in_ok-file.ensures.exact.1 in
    let kind : (c.args.kind, c.args.font.now) ≡ file = sym
    (c.in_ok-file.ensures.exact.0 ∙ c.in_ok-opened.ensures.exact) in
    let copies : IsOwn file.0 (tables_of file.0 file.1) c.in_ok-own.own =
    subst (λ (v : Kind × List ℕ). IsOwn v.0 (tables_of file.0 file.1) c.in_ok-own.own) kind
    c.in_ok-own.ensures.tables in
    let spells = spells_first file.0 file.1 form c.of_runs.result c.in_ok-outlines.outlines c.in_ok-own.own
    (c.of_runs.ensures ∙ c.in_ok-runs.ensures.runs.spelled_map) c.in_ok-outlines.ensures.outlines copies in
    let held : Kind × List ℕ → Held = λ v. record {
      kind = v.0;
      tables = v.1;
      runs = c.of_runs.result;
      outlines = c.in_ok-outlines.outlines;
      own = c.in_ok-own.own;
    } in (
      ap (λ (v : Kind × List ℕ). v.0) c.in_ok-opened.ensures.exact,
      subst (λ (v : Kind × List ℕ). SpellsIn v.0 (content_in (held c.in_ok-opened.opened))
          (content_of_all (format_of v.0) v.1)) c.in_ok-opened.ensures.exact
          (subst (λ (v : Kind × List ℕ). SpellsIn v.0 (content_in (held v)) (content_of_all (format_of v.0) v.1))
          c.in_ok-file.ensures.exact.0 spells),
      subst (λ (v : Kind × List ℕ). IsCut (format_of v.0) v.1) c.in_ok-opened.ensures.exact
          c.in_ok-file.ensures.exact.1,
    )

pub returns-in_err-framed-clause-exact : goal.returns-in_err-framed-clause-exact
returns-in_err-framed-clause-exact g c =
    passed_on _ _ c.from_residual-in_err-framed.result NoMemory c.from_residual-in_err-framed.ensures.1 tt

pub returns-in_err-outlines-clause-exact : goal.returns-in_err-outlines-clause-exact
returns-in_err-outlines-clause-exact g c =
    passed_on _ _ c.from_residual-in_err-outlines.result NoMemory c.from_residual-in_err-outlines.ensures.1 tt
