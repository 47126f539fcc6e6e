use Rattle.std.proofs.Common.{rules, ◌≡◌, ℕ, List, length, take, drop, ◌++◌, ◌∙◌, ap, arith}
use Rattle.std.proofs.lemmas.List.{take_at}
use Rattle.font_theory.specs.Bytes.{bytes32}
use Rattle.divided_tables.proofs.FilledLemmas.{thin_post_is}
use Rattle.divided_tables.proofs.names.unnamed.Goals as goal

pub returns-clause-table : goal.returns-clause-table
returns-clause-table g c =
    let items : c.in_ok-bytes.bytes.items ≡ take 32 c.args.post.now = search rules in
    let same : length c.put_version.new.post ≡ c.in_ok-bytes.bytes.len =
    omega (arith, c.put_version.ensures.size, c.deref_mut.ensures.len) in
    take_at c.put_version.new.post _ c.in_ok-bytes.bytes.len same
    ∙ thin_post_is c.args.post.now c.put_version.new.post c.requires
    (c.put_version.ensures.version ∙ ap (λ (l : List ℕ). bytes32 0x00030000 ++ drop 4 l) (c.deref_mut.ensures.value
    ∙ items))
