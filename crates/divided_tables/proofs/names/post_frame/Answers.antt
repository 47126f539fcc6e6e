use Rattle.std.proofs.Common.{rules, ◌≡◌, ◌≤◌, ◌∙◌, ℕ, List, MatchOption, Some, ap, arith, length, option_copied}
use Rattle.std.proofs.Common.{subst, sym}
use Rattle.font_write.specs.declared.source.TheConstants.{MAX_TABLE}
use Rattle.font_theory.proofs.PartedLemmas.{length-thin_post}
use Rattle.divided_tables.proofs.FilledLemmas.{thin_nowhere}
use Rattle.divided_tables.proofs.names.post_frame.Goals as goal

pub returns-then-post-lt-POST_LENGTH-clause-table : goal.returns-then-post-lt-POST_LENGTH-clause-table
returns-then-post-lt-POST_LENGTH-clause-table g c =
    let same : c.in_ok-whole-in-Some.whole.items ≡ c.in-Some.post.now = search rules in
    ap Some same ∙ sym (ap option_copied c.in-Some.is)
    ∙ thin_nowhere (option_copied c.args.post) c.in-Some.post.now (ap option_copied c.in-Some.is)
    c.if-post-lt-POST_LENGTH.true

pub returns-in_ok-bytes-in-Some-clause-small : goal.returns-in_ok-bytes-in-Some-clause-small
returns-in_ok-bytes-in-Some-clause-small g c =
    let short : length c.in-Some.post.now ≤ MAX_TABLE =
    subst (λ o. MatchOption o (Unit {0}) (λ b. length b.now ≤ MAX_TABLE)) c.in-Some.is c.requires in
    let same = ap (λ (l : List ℕ). length l) c.in_ok-bytes-in-Some.ensures.table in
    omega (arith, same, length-thin_post c.in-Some.post.now, short)
