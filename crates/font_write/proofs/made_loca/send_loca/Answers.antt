use Rattle.std.proofs.Common.{◌≡◌, ℕ, ◌+◌, ◌-◌, ◌*◌, ◌≤◌, List, ◌++◌, length, take, sym, ap, subst, arith}
use Rattle.std.proofs.Common.{length-append}
use Rattle.font_theory.specs.Bytes.{bytes32}
use Rattle.font_theory.specs.Content.{Content, glyph_count}
use Rattle.font_write.specs.Trace.{SentAll}
use Rattle.font_write.specs.Inside.{loca_to}
use Rattle.font_write.proofs.SendingLemmas.{sends_err_at, stops_within}
use Rattle.font_write.proofs.OutlineLemmas.{length_loca, loca_first, loca_start, loca_within_all, walk_start}
use Rattle.font_write.proofs.made_loca.send_loca.Goals as goal

pub send_word-requires : goal.send_word-requires
send_word-requires g c =
    let K : Content = g.S.Source.content_of c.args.source.now in
    record {
      going = c.requires.room.going;
      fits = omega (
        arith,
        c.requires.room.fits,
        length_loca K (glyph_count K.copied),
      );
    }

pub returns-in_err-send_word : goal.returns-in_err-send_word
returns-in_err-send_word g c =
    let K : Content = g.S.Source.content_of c.args.source.now in
    sends_err_at _ _ (bytes32 0) _ c.from_residual.result (loca_first K (glyph_count K.copied))
    c.from_residual.ensures.0 c.in_err-send_word.ensures

pub loop-from-init : goal.loop-from-init
loop-from-init g c =
    let K : Content = g.S.Source.content_of c.args.source.now in
    record {
      sent = subst (λ (b : List ℕ). SentAll (g.K.Sink.trace c.args.sink.now) (g.K.Sink.trace c.send_word.new.sink) b)
          (sym (loca_start K)) c.in_ok-send_word.ensures;
      walk = walk_start K c.next_kept.result c.next_kept.ensures;
      within = omega arith;
    }

pub take-requires-clause-fits : goal.take-requires-clause-fits
take-requires-clause-fits g c =
    let K : Content = g.S.Source.content_of c.args.source.now in
    let to : ℕ = c.loop-from.from + c.min.result in
    let chunk : List ℕ = take (4 * (to - c.loop-from.from)) c.gather_offsets-walk.new.block in
    let to_end : to ≤ glyph_count K.copied =
    omega (arith, c.glyph_count-count.ensures, c.min.ensures, c.loop-from.invariant.within) in
    let long : length (loca_to K c.loop-from.from ++ chunk) ≡ length (loca_to K to) =
    ap length c.gather_offsets-walk.ensures.gathered in
    omega (
      arith,
      c.requires.room.fits,
      c.loop-from.invariant.sent.count,
      length_loca K (glyph_count K.copied),
      length_loca K c.loop-from.from,
      length_loca K to,
      length-append (loca_to K c.loop-from.from) chunk,
      long,
      to_end,
    )

pub returns-in_err-take : goal.returns-in_err-take
returns-in_err-take g c =
    let K : Content = g.S.Source.content_of c.args.source.now in
    let to : ℕ = c.loop-from.from + c.min.result in
    let chunk : List ℕ = take (4 * (to - c.loop-from.from)) c.gather_offsets-walk.new.block in
    let to_end : to ≤ glyph_count K.copied =
    omega (arith, c.glyph_count-count.ensures, c.min.ensures, c.loop-from.invariant.within) in
    stops_within _ _ _ (loca_to K c.loop-from.from) chunk _ c.from_residual-in_err-take.result
    (loca_within_all K to (glyph_count K.copied) chunk c.loop-from.from to_end c.gather_offsets-walk.ensures.gathered)
    c.from_residual-in_err-take.ensures.0 c.loop-from.invariant.sent c.in_err-take.ensures
