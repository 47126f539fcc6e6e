use Rattle.std.proofs.Common.{◌≡◌, ℕ, List, None, subst}
use Rattle.font_theory.specs.Content.{Content}
use Rattle.font_theory.specs.Cut.{content_of_all}
use Rattle.font_theory.specs.Agreement.{both}
use Rattle.font_theory.specs.Kinds.{format_of, spelled_by}
use Rattle.font_theory.specs.declared.kinds.Kind.{Kind}
use Rattle.font_join.specs.Join.{IsUnionRefusal, union_fault}
use Rattle.font_theory.proofs.KindLemmas.{kind_is}
use Rattle.font_join.specs.Union.{content_in}
use Rattle.font_join.proofs.JoinLemmas.{first_refused, is_join, second_refused, union_refused, unmade}
use Rattle.font_subset.proofs.CutLemmas.{passed_on}
use Rattle.font_join.proofs.join_pair.join_exactly.Goals as goal

pub returns-in_err-first-clause-exact : goal.returns-in_err-first-clause-exact
returns-in_err-first-clause-exact g c =
    passed_on _ _ c.from_residual.result _ c.from_residual.ensures.1 (first_refused (format_of c.args.kind) c.args.x.now
    c.args.y.now c.in_err-first.field-0.0 c.in_err-first.ensures)

pub returns-in_err-second-clause-exact : goal.returns-in_err-second-clause-exact
returns-in_err-second-clause-exact g c =
    passed_on _ _ c.from_residual-in_err-second.result _ c.from_residual-in_err-second.ensures.1
    (second_refused (format_of c.args.kind) c.args.x.now c.args.y.now c.in_err-second.field-0.0 c.in_ok-first.ensures.1
    c.in_err-second.ensures)

pub returns-in_err-joined-clause-exact : goal.returns-in_err-joined-clause-exact
returns-in_err-joined-clause-exact g c =
    let error = c.in_err-joined.field-0.0 in
    passed_on _ _ c.from_residual-in_err-joined.result _ c.from_residual-in_err-joined.ensures.1
    (union_refused (kind_is c.args.kind) c.args.x.now c.args.y.now c.in_ok-first.ensures.1 c.in_ok-second.ensures.1
    error
    (subst (λ (v : List ℕ × List ℕ). IsUnionRefusal (format_of c.args.kind) v.0 v.1 error)
    (λ i. (c.in_ok-first.ensures.0 i, c.in_ok-second.ensures.0 i)) c.in_err-joined.ensures.exact))

-- the content of the union of two files, and that nothing refuses it
abbrev IsOf : Kind → Content → List ℕ × List ℕ → Type 0
IsOf k C v =
    (C ≡ spelled_by k (both (content_of_all (format_of k) v.0) (content_of_all (format_of k) v.1)))
    × (union_fault (format_of k) v.0 v.1 ≡ None)

pub returns-in_err-file_in_memory-clause-exact : goal.returns-in_err-file_in_memory-clause-exact
returns-in_err-file_in_memory-clause-exact g c =
    let C : Content = content_in c.in_ok-joined.joined in
    let joined = subst (IsOf c.args.kind C) (λ i. (c.in_ok-first.ensures.0 i, c.in_ok-second.ensures.0 i))
    c.in_ok-joined.ensures.exact in
    passed_on _ _ c.from_residual-in_err-file_in_memory.result _ c.from_residual-in_err-file_in_memory.ensures.1
    (unmade (kind_is c.args.kind) c.args.x.now c.args.y.now c.in_ok-first.ensures.1 c.in_ok-second.ensures.1 joined.1 C
    joined.0 c.in_err-file_in_memory.field-0.0 c.in_err-file_in_memory.ensures.exact)

pub returns-clause-exact : goal.returns-clause-exact
returns-clause-exact g c =
    let C : Content = content_in c.in_ok-joined.joined in
    let joined = subst (IsOf c.args.kind C) (λ i. (c.in_ok-first.ensures.0 i, c.in_ok-second.ensures.0 i))
    c.in_ok-joined.ensures.exact in
    is_join (kind_is c.args.kind) c.args.x.now c.args.y.now c.in_ok-first.ensures.1 c.in_ok-second.ensures.1 joined.1 C
    joined.0 c.in_ok-file_in_memory.field-0.items c.in_ok-file_in_memory.ensures.exact
