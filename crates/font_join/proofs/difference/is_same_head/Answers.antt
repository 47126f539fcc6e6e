use Rattle.std.proofs.Common.{rules, ◌≡◌, true, take, drop, ◌&&◌, sym, ◌∙◌}
use Rattle.std.specs.Str.{bytes_eq}
use Rattle.std.proofs.lemmas.List.{take_rest}
use Rattle.font_join.proofs.TableDifferenceLemmas.{same_heads}
use Rattle.font_join.proofs.difference.is_same_head.Goals as goal

pub returns : goal.returns
returns c =
    let a = c.args.a.now in
    let b = c.args.b.now in
    let p : bytes_eq (take 8 a) (take 8 b) ≡ true = search rules in
    let q : bytes_eq (take 38 (drop 12 a)) (take 38 (drop 12 b)) ≡ true = search rules in
    let e = c.is_same-2.ensures in
    let r = e ∙ (λ i. bytes_eq (take_rest a 52 i) (take_rest b 52 i)) in
    r ∙ sym (same_heads a b c.requires.first c.requires.second
    ∙ (λ i. p i && (q i && bytes_eq (drop 52 a) (drop 52 b))))
