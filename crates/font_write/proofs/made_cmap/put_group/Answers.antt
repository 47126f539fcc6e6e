use Rattle.std.proofs.Common.{◌≡◌, ℕ, ◌+◌, List, ◌++◌, take, ap, ◌∙◌, arith, append_assoc}
use Rattle.font_theory.specs.Bytes.{bytes32}
use Rattle.font_write.proofs.made_cmap.put_group.Goals as goal

pub returns : goal.returns
returns c =
    let front : List ℕ = take c.args.at c.args.block.now in
    let first : List ℕ = bytes32 c.args.run.first in
    let last : List ℕ = bytes32 c.args.run.last in
    let to_last : c.args.at + 8 ≡ c.args.at + 4 + 4 = omega arith in
    let to_end : c.args.at + 12 ≡ c.args.at + 8 + 4 = omega arith in
    let two : take (c.args.at + 8) c.put_word-2.new.block ≡ (front ++ first) ++ last =
    ap (λ (k : ℕ). take k c.put_word-2.new.block) to_last ∙ c.put_word-2.ensures
    ∙ ap (λ (x : List ℕ). x ++ last) c.put_word.ensures in
    ap (λ (k : ℕ). take k c.put_word-3.new.block) to_end
    ∙ c.put_word-3.ensures
    ∙ ap (λ (x : List ℕ). x ++ bytes32 c.from.result) two
    ∙ append_assoc (front ++ first) last (bytes32 c.from.result)
    ∙ append_assoc front first (last ++ bytes32 c.from.result)
    ∙ ap (λ (n : ℕ). front ++ (first ++ (last ++ bytes32 n))) c.from.ensures
