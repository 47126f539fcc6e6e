use Rattle.std.proofs.Common.{◌≡◌, ℕ, ◌+◌, ◌-◌, ◌*◌, List, ◌++◌, take, sym, ap, ◌∙◌, arith, append_assoc}
use Rattle.font_theory.specs.Bytes.{bytes32}
use Rattle.font_theory.specs.Content.{Content}
use Rattle.font_write.specs.Inside.{loca_to}
use Rattle.font_write.proofs.OutlineLemmas.{loca_more}
use Rattle.font_write.proofs.made_loca.gather_offsets.Goals as goal

pub loop-g-preserved : goal.loop-g-preserved
loop-g-preserved g c =
    let K : Content = g.S.Source.content_of c.args.source.now in
    let n : ℕ = c.loop-g.g in
    let x : ℕ = c.pass_glyph-walk.result.offset in
    let at : 4 * (n + 1 - c.args.from) ≡ 4 * (n - c.args.from) + 4 = omega (arith, c.loop-g.auto.g) in
    record {
      walk = c.pass_glyph-walk.ensures;
      gathered = ap (λ (k : ℕ). loca_to K c.args.from ++ take k c.put_word.new.block) at
          ∙ ap (λ (b : List ℕ). loca_to K c.args.from ++ b) c.put_word.ensures
          ∙ sym (append_assoc (loca_to K c.args.from) (take (4 * (n - c.args.from)) c.loop-g.block) (bytes32 x))
          ∙ ap (λ (b : List ℕ). b ++ bytes32 x) c.loop-g.invariant.gathered
          ∙ ap (λ (k : ℕ). loca_to K n ++ bytes32 k) c.pass_glyph-walk.ensures.offset
          ∙ sym (loca_more K n);
    }
