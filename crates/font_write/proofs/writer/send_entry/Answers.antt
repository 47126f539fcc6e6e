use Rattle.std.proofs.Common.{ℕ, List, ◌++◌, subst}
use Rattle.font_theory.specs.Bytes.{bytes32}
use Rattle.font_write.specs.Trace.{Sends}
use Rattle.font_write.proofs.SendingLemmas.{sends_err, sends_then}
use Rattle.font_write.proofs.writer.send_entry.Goals as goal

pub returns-in_err-take : goal.returns-in_err-take
returns-in_err-take g c =
    sends_err _ _ c.args.tag.0 (bytes32 c.args.checksum ++ (bytes32 c.args.offset ++ bytes32 c.args.length))
    c.from_residual.result c.from_residual.ensures.0 c.in_err-take.ensures

pub returns : goal.returns
returns g c =
    let rest : List ℕ = bytes32 c.args.checksum ++ (bytes32 c.args.offset ++ bytes32 c.args.length) in
    sends_then _ _ _ c.args.tag.0 rest c.take-2.result c.in_ok-take.ensures
    (subst (λ (b : List ℕ). Sends (g.K.Sink.trace c.take.new.self) (g.K.Sink.trace c.take-2.new.self) b c.take-2.result)
    c.three_words.ensures c.take-2.ensures)
