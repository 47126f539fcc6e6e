use Rattle.std.proofs.Common.{length, replicate, arith}
use Rattle.sfnt_bytes.specs.Findings.{padding_of}
use Rattle.font_theory.specs.Bytes.{padded}
use Rattle.font_theory.proofs.PaddingLemmas.{length-padded-is}
use Rattle.font_write.proofs.SendingLemmas.{sends_err, sends_then}
use Rattle.font_write.proofs.bytes.send_padded.Goals as goal

pub take-requires-clause-fits : goal.take-requires-clause-fits
take-requires-clause-fits g c = omega (arith, c.requires.fits, length-padded-is c.args.bytes.now)

pub returns-in_err-take : goal.returns-in_err-take
unfolding padded
returns-in_err-take g c = sends_err _ _ c.args.bytes.now (replicate (padding_of (length c.args.bytes.now)) 0)
    c.from_residual.result c.from_residual.ensures.0 c.in_err-take.ensures

pub send_padding-requires : goal.send_padding-requires
send_padding-requires g c =
    record {
      going = c.in_ok-take.ensures.going;
      fits = omega (
        arith,
        c.requires.fits,
        length-padded-is c.args.bytes.now,
        c.in_ok-take.ensures.count,
      );
    }

pub returns : goal.returns
unfolding padded
returns g c = sends_then _ _ _ c.args.bytes.now (replicate (padding_of (length c.args.bytes.now)) 0)
    c.send_padding.result c.in_ok-take.ensures c.send_padding.ensures
