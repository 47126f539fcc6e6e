use Rattle.std.proofs.Common.{◌≢◌, arith}
use Rattle.font_map.proofs.LaidOutLemmas.{laid_code, never_free, passed_on}
use Rattle.font_map.proofs.laid_out.lay_group.Goals as goal

pub loop-code-preserved : goal.loop-code-preserved
loop-code-preserved c =
    let filled : c.clip.result ≢ 0xFFFF = never_free c.args.count _ _ _ c.clip.ensures (omega arith) in
    let next = c.free_from-code-in-loop-code.ensures in
    record {
      laid = laid_code _ _ _ _ _ _ _ _ _ c.group_at-group.ensures.next c.loop-code.invariant.laid (omega arith) filled
          c.loop-code.invariant.first.from_on (omega arith) (c.loop-code.invariant.first.free (omega arith))
          c.clip.ensures c.glyph_along.ensures;
      skips = next.skips;
      first = passed_on _ _ _ _ _ _ (omega arith) filled c.loop-code.invariant.first next.first;
    }
